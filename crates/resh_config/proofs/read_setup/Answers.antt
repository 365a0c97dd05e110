use Rattle.serde_json.specs.View.{view}
use Rattle.resh_config.proofs.Readings.{read_setup_out, refused_out, valid_out}
use Rattle.resh_config.proofs.read_setup.Goals as goal

pub returns-in-Ok-setup_in-clause-exact : goal.returns-in-Ok-setup_in-clause-exact
returns-in-Ok-setup_in-clause-exact c =
    read_setup_out c.args.bytes.now (view c.in-Ok.json) c.in-Ok-setup_in.setup c.in-Ok.ensures.ok c.in-Ok-setup_in.ensures

pub returns-in-Ok-setup_in-clause-valid : goal.returns-in-Ok-setup_in-clause-valid
returns-in-Ok-setup_in-clause-valid c =
    valid_out c.args.bytes.now (view c.in-Ok.json) c.in-Ok-setup_in.setup c.in-Ok.ensures.ok c.in-Ok-setup_in.ensures

pub returns-in-Ok-clause-exact : goal.returns-in-Ok-clause-exact
returns-in-Ok-clause-exact c =
    refused_out c.args.bytes.now (view c.in-Ok.json) c.in-Err-setup_in.fault c.answered.result c.in-Ok.ensures.ok c.in-Err-setup_in.ensures
    c.answered.ensures.fault c.answered.ensures.memory
