-- The regular files that a run has open. One file is one device and one number there (POSIX, st_dev and st_ino), whatever
-- names it has; what isn't a regular file may be shared.
use Rattle.std.specs.Prelude.{◌≡◌, ℕ, ◌==◌, ◌&&◌, ◌||◌, Bool, true, false, List, [], ◌∷◌, ◌++◌, length, Option, None, Some, ⊤}
use Rattle.std.specs.List.{list_any}
use Rattle.file_ends.specs.declared.file_id.FileId.{FileId}
use Rattle.file_ends.specs.declared.not_opened.NotOpened.{NotOpened}
use Rattle.file_ends.specs.declared.not_opened.NotOpened.TheVariants.{Failed, IsOpen, NoRoom}

-- the files that were opened to be read and those that were opened to be written, the latest last
pub record Opened : Type 0 where
  pub read : List FileId
  pub written : List FileId

abbrev pub nothing_open : Opened
nothing_open = record { read = []; written = [] }

-- how many files can be noted of each kind
abbrev pub files_most : ℕ
files_most = 20

abbrev pub is_same : FileId → FileId → Bool
is_same a b = a.device == b.device && a.inode == b.inode

abbrev pub is_among : List FileId → FileId → Bool
is_among files file = list_any (λ other. is_same other file) files

-- whether the file is open to be written
abbrev pub is_written : Opened → Option FileId → Bool
is_written opened None = false
is_written opened (Some file) = is_among opened.written file

-- whether the file is open, to be read or to be written
abbrev pub is_open : Opened → Option FileId → Bool
is_open opened None = false
is_open opened (Some file) = is_among opened.read file || is_among opened.written file

-- one more file is open to be read
abbrev pub with_read : Opened → Option FileId → Opened
with_read opened None = opened
with_read opened (Some file) = record opened { read = opened.read ++ file ∷ [] }

-- one more file is open to be written
abbrev pub with_written : Opened → Option FileId → Opened
with_written opened None = opened
with_written opened (Some file) = record opened { written = opened.written ++ file ∷ [] }

-- no file is open both to be read and to be written
abbrev pub IsApart : Opened → Type 0
IsApart opened = (file : FileId) → is_among opened.read file ≡ true → is_among opened.written file ≡ false

-- What is answered of a file that the system opened, where it isn't noted: that it is open, and which it is; or that it
-- isn't, and no more can be noted beside these.
abbrev pub IsRefusal : (Option FileId → Bool) → List FileId → Option FileId → NotOpened → Type 0
IsRefusal is_taken noted id Failed = ⊥
IsRefusal is_taken noted id (IsOpen file) = (is_taken id ≡ true) × (id ≡ Some file)
IsRefusal is_taken noted id NoRoom = (is_taken id ≡ false) × (length noted ≡ files_most)

-- Why no file was opened: the system didn't open it, of which nothing is told; it is this one, which is open; or no more can
-- be noted beside these.
abbrev pub IsReason : (Option FileId → Bool) → List FileId → NotOpened → Type 0
IsReason is_taken noted Failed = ⊤
IsReason is_taken noted (IsOpen file) = is_taken (Some file) ≡ true
IsReason is_taken noted NoRoom = length noted ≡ files_most
