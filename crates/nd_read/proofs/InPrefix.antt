-- The tests of an order and of a prefix.
use Rattle.std.proofs.Common.{ℕ, ◌≤◌, nat_le}
use Rattle.std.specs.Bool.{Decides}
use Rattle.std.proofs.lemmas.Bool.{leb-true, le-leb}
use Rattle.std.proofs.lemmas.Bool.Decides.{Decides-ltb, Decides-and}
use Rattle.savi_kinds.specs.declared.address.Prefix.{Prefix}
use Rattle.savi_kinds.specs.Prefixes.{LiesIn, first_of, past_of}
use Rattle.nd_read.specs.InPrefix.{lies_in}

pub Decides-leb : (a b : ℕ) → Decides (nat_le a b) (a ≤ b)
Decides-leb a b = (leb-true a b, le-leb a b)

pub Decides-lies_in : (address : ℕ) (prefix : Prefix) → Decides (lies_in address prefix) (LiesIn address prefix)
Decides-lies_in address prefix =
    Decides-and (nat_le (first_of prefix) address) _ (Decides-leb (first_of prefix) address) (Decides-ltb address (past_of prefix))
