use Rattle.resh_gen.proofs.Written.{two_members}
use Rattle.resh_gen.proofs.file_text.write_client.Goals as goal

pub returns-clause-tokens : goal.returns-clause-tokens
returns-clause-tokens c =
    two_members _ _ _ _ _ _ _ _ _ _ _ c.in_ok-begin_object.ensures.ok c.in_ok-key.ensures.ok c.in_ok-write_commands.ensures.tokens
    c.in_ok-key-2.ensures.ok c.in_ok-write_name.ensures.tokens c.in_ok-end_object.ensures.ok
