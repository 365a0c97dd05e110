use Rattle.std.proofs.Common.{◌≡◌, IfOk, subst}
use Rattle.resh_setup.specs.declared.setup.Setup.{Setup}
use Rattle.resh_gen.specs.SetupText.{setup_text}
use Rattle.resh_gen.proofs.file_text.generated_text.Goals as goal

pub returns : goal.returns
returns c = subst (λ (s : Setup). IfOk c.setup_text.result (λ bytes. bytes.items ≡ setup_text s)) c.in_ok-setup.ensures c.setup_text.ensures
