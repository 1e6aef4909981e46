use Rattle.sn_sets.proofs.SealedLemmas.{fits_device, fits_server}
use Rattle.sn_sets.proofs.laws.sealed_fits.Goals as goal

pub returns-clause-device : goal.returns-clause-device
returns-clause-device c = fits_device

pub returns-clause-server : goal.returns-clause-server
returns-clause-server c = fits_server
