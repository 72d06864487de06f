-- What a source gave up call after call.
use Rattle.std.proofs.Common.{ℕ, List, [], ◌++◌, ap, sym, ◌∙◌, arith, length-append, Option}
use Rattle.savi_ends.specs.Octets.{in_front}
use Rattle.savi_ends.proofs.Octets.{in_front_again, takes_more}
use Rattle.journal_check.specs.declared.lines.Lines.{Lines}
use Rattle.journal_check.specs.Pieces.{GaveSome, HasPassed, octets_ahead}
use Rattle.journal_check.proofs.FeedPlaces.{in_front_none}

pub gave_none : (left : Option (List ℕ)) → GaveSome left left
gave_none left = ([], sym (in_front_none left))

pub gave_more : (before mid after : Option (List ℕ)) → GaveSome before mid → GaveSome mid after → GaveSome before after
gave_more before mid after first next = (first.0 ++ next.0, takes_more first.0 next.0 before mid after first.1 next.1)

-- octets that were passed

pub passed_none : (lines : Lines) (left : Option (List ℕ)) → HasPassed lines left lines left
passed_none lines left = ([], sym (in_front_none (octets_ahead lines left)), omega arith)

pub passed_more : (first next last : Lines) (before mid after : Option (List ℕ)) → HasPassed first before next mid → HasPassed next mid last after → HasPassed first before last after
passed_more first next last before mid after one other =
    let count = one.2 in
    let count' = other.2 in
    let parts = length-append one.0 other.0 in
    (one.0 ++ other.0, one.1 ∙ ap (in_front one.0) other.1 ∙ in_front_again one.0 other.0 (octets_ahead last after), omega (arith, count, count', parts))
