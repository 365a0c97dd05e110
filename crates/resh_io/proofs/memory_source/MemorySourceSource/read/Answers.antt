use Rattle.std.proofs.Common.{◌≡◌, ◌≤◌, take, drop, length, ap, sym, ◌∙◌, arith, length-drop}
use Rattle.std.proofs.lemmas.List.{take_rest}
use Rattle.std.proofs.lemmas.Grind.{common_steps}
use Rattle.resh_io.proofs.MemoryBytes.{given-first, given-none}
use Rattle.resh_io.proofs.memory_source.MemorySourceSource.read.Goals as goal

pub returns-clause-bytes : goal.returns-clause-bytes
returns-clause-bytes c =
    let s = c.self.inside in
    let n = c.min-count.result in
    let copied : c.copy_from_slice.new.self ≡ take n (drop s.at s.bytes.items) = grind (arith, common_steps, take_rest) in
    let fits : n ≤ length (drop s.at s.bytes.items) = grind (arith, common_steps, length-drop) in (
      sym (ap (λ v. v.left) c.self.view_is) ∙ given-first s.bytes.items c.args.into.now c.copy_from_slice.new.self s.at n copied fits,
      λ none room. given-none s.bytes.items s.at n s.most (length c.args.into.now) (grind (arith, common_steps, take_rest)) (omega arith) (grind (arith, common_steps)) none,
    )
