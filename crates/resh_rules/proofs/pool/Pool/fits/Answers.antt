use Rattle.std.proofs.Common.{sym, ◌∙◌}
use Rattle.resh_rules.proofs.Giving.{fits_by_test}
use Rattle.resh_rules.proofs.pool.Pool.fits.Goals as goal

pub returns-clause-exactly : goal.returns-clause-exactly
returns-clause-exactly c =
    let test = fits_by_test c.args.self.now.state c.args.donor.0 c.args.id.now c.args.what.now in
    (λ t. test.0 (sym c.test.ensures ∙ t), λ f. c.test.ensures ∙ test.1 f)
