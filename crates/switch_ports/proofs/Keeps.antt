-- One port after another is kept.
use Rattle.std.proofs.Common.{subst, suc, append_assoc, append-nil, length-append, ◌≡◌, ◌≢◌, ℕ, ◌+◌, List, [], ◌∷◌, ◌++◌, length, get_or, refl, ◌∙◌, sym, ap, arith, Some, true}
use Rattle.std.specs.Prelude.{All}
use Rattle.std.proofs.lemmas.List.{get_or_at, get_or-append-add}
use Rattle.std.proofs.lemmas.List.Elements.{All-cons, All-head, All-tail}
use Rattle.savi_kinds.specs.Ports.{number_of}
use Rattle.savi_ends.specs.declared.world.Ends.{Ends}
use Rattle.savi_ends.specs.Places.{Book, Place, PortKey, OtherPortsStay, IsPortOut, IsPortKept}
use Rattle.port_worker.specs.declared.port_ends.PortEnds.{PortEnds}
use Rattle.switch_ports.specs.Openings.{IsOff, HaveOwnNumbers}
use Rattle.switch_ports.proofs.Rising.{All-both, All-middle}

-- of all that were held, these are kept and those are still held
pub record KeepsSoFar {S K C : Type 0} (gone still all : List (PortEnds S K C)) (old new : Book S K C) : Type 0 where
  pub split : all ≡ still ++ gone
  pub kept : All (λ p. IsPortKept old.ports new.ports (number_of p.port) p.ends) gone
  pub others : (key : PortKey) → IsOff gone key.number → new.ports key ≡ old.ports key
  pub rest : new ≡ record old { ports = new.ports }

pub keeps_none : {S K C : Type 0} (all : List (PortEnds S K C)) (book : Book S K C) → KeepsSoFar [] all all book book
keeps_none {S} {K} {C} all book = record {
  split = sym (append-nil all);
  kept = λ k d inside. absurd (omega arith);
  others = λ key off. refl;
  rest = refl;
}

-- the next port that is kept is none of those that are
pub off_kept : {S K C : Type 0} (gone still all : List (PortEnds S K C)) (p : PortEnds S K C) → HaveOwnNumbers all → all ≡ (still ++ p ∷ []) ++ gone → IsOff gone (number_of p.port)
off_kept {S} {K} {C} gone still all p apart split = λ k d inside same.
    let whole : all ≡ still ++ p ∷ gone = split ∙ append_assoc still (p ∷ []) gone in
    let there : get_or (still ++ p ∷ gone) (length still) d ≡ p = get_or_at still p gone d (length still) refl in
    let later : get_or (still ++ p ∷ gone) (length still + suc k) d ≡ get_or gone k d = get_or-append-add still (p ∷ gone) (suc k) d in
    let differ : number_of (get_or (still ++ p ∷ gone) (length still) d).port ≢ number_of (get_or (still ++ p ∷ gone) (length still + suc k) d).port = subst (λ (l : List (PortEnds S K C)). HaveOwnNumbers l) whole apart (length still) (length still + suc k) d (omega arith) (omega (arith, length-append still (p ∷ gone))) in
    differ (ap (λ (q : PortEnds S K C). number_of q.port) there ∙ sym same ∙ ap (λ (q : PortEnds S K C). number_of q.port) (sym later))

pub next_out : {S K C : Type 0} (gone still all : List (PortEnds S K C)) (p : PortEnds S K C) (old mid : Book S K C) → HaveOwnNumbers all → All (λ q. IsPortOut old.ports (number_of q.port)) all → KeepsSoFar gone (still ++ p ∷ []) all old mid → IsPortOut mid.ports (number_of p.port)
next_out {S} {K} {C} gone still all p old mid apart out so_far =
    let IsOut : PortEnds S K C → Type 0 = λ q. IsPortOut old.ports (number_of q.port) in
    let off = off_kept gone still all p apart so_far.split in
    let was = All-middle IsOut still p gone (subst (λ (l : List (PortEnds S K C)). All IsOut l) (so_far.split ∙ append_assoc still (p ∷ []) gone) out) in
    let key = was.0 in
    let there : IsOff gone key.number = rw was.1 off in
    (key, was.1, ap (λ (x : Place (Ends S K C)). x.is_out) (so_far.others key there) ∙ was.2)

pub keep_step : {S K C : Type 0} (gone still all : List (PortEnds S K C)) (p : PortEnds S K C) (old mid new : Book S K C) → HaveOwnNumbers all → KeepsSoFar gone (still ++ p ∷ []) all old mid
    → IsPortKept mid.ports new.ports (number_of p.port) p.ends → OtherPortsStay mid.ports new.ports (number_of p.port) → new ≡ record mid { ports = new.ports }
    → KeepsSoFar (p ∷ gone) still all old new
keep_step {S} {K} {C} gone still all p old mid new apart so_far stands stay rest =
    let n = number_of p.port in
    let off = off_kept gone still all p apart so_far.split in
    let WasKept : PortEnds S K C → Type 0 = λ q. IsPortKept old.ports mid.ports (number_of q.port) q.ends in
    let NowKept : PortEnds S K C → Type 0 = λ q. IsPortKept old.ports new.ports (number_of q.port) q.ends in
    let Apart : PortEnds S K C → Type 0 = λ q. number_of q.port ≢ n in
    record {
      split = so_far.split ∙ append_assoc still (p ∷ []) gone;
      kept = All-cons NowKept p gone
          (λ key same out. stands key same (ap (λ (x : Place (Ends S K C)). x.is_out) (so_far.others key (rw same off)) ∙ out))
          (All-both WasKept Apart NowKept gone so_far.kept off (λ q was away key same out. ap (λ (x : Place (Ends S K C)). x.stands) (stay key (λ equal. away (sym same ∙ equal))) ∙ was key same out));
      others = λ key away. stay key (λ same. All-head (λ (q : PortEnds S K C). number_of q.port ≢ key.number) p gone away (sym same)) ∙ so_far.others key (All-tail (λ (q : PortEnds S K C). number_of q.port ≢ key.number) p gone away);
      rest = rest ∙ ap (λ (b : Book S K C). record b { ports = new.ports }) so_far.rest;
    }

pub keeps_all : {S K C : Type 0} (gone still all : List (PortEnds S K C)) (old new : Book S K C) → still ≡ [] → KeepsSoFar gone still all old new → all ≡ gone
keeps_all {S} {K} {C} gone still all old new none so_far = so_far.split ∙ ap (λ (l : List (PortEnds S K C)). l ++ gone) none
