-- Why no file was opened, by what is answered of one that the system opened.
use Rattle.std.proofs.Common.{◌≡◌, Bool, true, List, Option, subst}
use Rattle.file_ends.specs.declared.file_id.FileId.{FileId}
use Rattle.file_ends.specs.declared.not_opened.NotOpened.{NotOpened}
use Rattle.file_ends.specs.declared.not_opened.NotOpened.TheVariants.{Failed, IsOpen, NoRoom}
use Rattle.file_ends.specs.Opened.{IsRefusal, IsReason}

pub reason_of_refusal : (is_taken : Option FileId → Bool) (noted : List FileId) (id : Option FileId) (why : NotOpened) → IsRefusal is_taken noted id why → IsReason is_taken noted why
reason_of_refusal is_taken noted id Failed refusal = absurd refusal
reason_of_refusal is_taken noted id (IsOpen file) refusal = subst (λ o. is_taken o ≡ true) refusal.1 refusal.0
reason_of_refusal is_taken noted id NoRoom refusal = refusal.1
