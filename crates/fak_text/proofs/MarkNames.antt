-- Marks are told apart by their names.
use Rattle.std.proofs.Common.{refl}
use Rattle.fak_model.specs.declared.queue.Kind.TheVariants as kinds
use Rattle.fak_text.specs.HistoryText.{kind_named}
use Rattle.fak_text.specs.Laws.{EachMarkIsReadByItsName}

pub mark_is_read : EachMarkIsReadByItsName
unfolding kind_named
mark_is_read kinds.ClaimIn n = refl
mark_is_read kinds.OverIn n = refl
mark_is_read kinds.BackIn n = refl
mark_is_read kinds.NoRoom n = refl
mark_is_read (kinds.Put x) n = refl
mark_is_read (kinds.Fill k) n = refl
mark_is_read kinds.EndIn n = refl
mark_is_read kinds.ClaimOut n = refl
mark_is_read kinds.OverOut n = refl
mark_is_read kinds.BackOut n = refl
mark_is_read kinds.NoItem n = refl
mark_is_read (kinds.Got x) n = refl
mark_is_read (kinds.Take k) n = refl
mark_is_read kinds.EndOut n = refl
mark_is_read kinds.Close n = refl
mark_is_read kinds.Closed n = refl
mark_is_read kinds.LateIn n = refl
