use Rattle.resh_gen.proofs.Written.{text_written}
use Rattle.resh_gen.proofs.file_text.setup_text.Goals as goal

pub returns : goal.returns
returns c =
    text_written _ _ _ _ _ _ _ c.args.setup.now c.in_ok-push.ensures.items c.into_inner-text.ensures.items
    c.in_ok-write_setup.ensures.before c.new-writer.ensures.before c.new.ensures.items c.in_ok-write_setup.ensures.tokens c.new-writer.ensures.tokens
