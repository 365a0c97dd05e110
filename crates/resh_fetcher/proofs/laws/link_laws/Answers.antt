use Rattle.resh_fetcher.proofs.Testing.{clone_by_test, cut_by_test, fetch_by_test, fits_clone_by_test, fits_cut_by_test, fits_fetch_by_test}
use Rattle.resh_fetcher.proofs.Standing.{crash_fits, cut_fits, grown_fits}
use Rattle.resh_fetcher.proofs.StandsOn.{cloned_fits, fetched_fits, kept_fits, start_fits}
use Rattle.resh_fetcher.proofs.laws.link_laws.Goals as goal

pub returns-clause-may : goal.returns-clause-may
returns-clause-may c = record { clone = clone_by_test; fetch = fetch_by_test; cut = cut_by_test }

pub returns-clause-fits : goal.returns-clause-fits
returns-clause-fits c = record { clone = fits_clone_by_test; fetch = fits_fetch_by_test; cut = fits_cut_by_test }

pub returns-clause-stands : goal.returns-clause-stands
returns-clause-stands c =
    record {
      started = start_fits;
      cloned = cloned_fits;
      fetched = fetched_fits;
      sent = λ lanes most docs entries l none off fits. cut_fits lanes docs entries l fits none off most;
      kept = kept_fits;
      back = λ lanes docs entries l fits. crash_fits lanes docs entries l fits;
      longer = λ lanes docs entries more l fits. grown_fits lanes docs entries l fits more;
    }
