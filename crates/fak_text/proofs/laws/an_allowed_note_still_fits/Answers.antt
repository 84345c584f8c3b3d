use Rattle.fak_text.proofs.Journals.{note_fits}
use Rattle.fak_text.proofs.laws.an_allowed_note_still_fits.Goals as goal

pub returns : goal.returns
returns c = note_fits
