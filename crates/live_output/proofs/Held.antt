-- Octets that are gathered, and written in pieces.
use Rattle.std.proofs.Common.{◌≡◌, ℕ, List, [], ◌++◌, refl, ap, sym, subst, ◌∙◌, append_assoc, append-nil, Option}
use Rattle.savi_ends.specs.declared.sink.Put.{Put}
use Rattle.savi_ends.specs.declared.sink.Put.TheVariants as put
use Rattle.savi_ends.specs.Octets.{behind}
use Rattle.savi_ends.specs.Writes.{Extends}
use Rattle.savi_ends.proofs.Octets.{behind_again}
use Rattle.live_session.proofs.StandsOn.{behind_none}
use Rattle.live_output.specs.Writing.{Holds}

-- all is gathered
pub holds_all : (o : Option (List ℕ)) (octets : List ℕ) → Holds o o octets octets
holds_all o octets = record { took = []; sink = behind_none o; all = refl }

-- all is written
pub holds_none : (old new : Option (List ℕ)) (octets : List ℕ) → new ≡ behind old octets → Holds old new [] octets
holds_none old new octets is = record { took = octets; sink = is; all = append-nil octets }

joined : (took gathered more text rest : List ℕ) → took ++ gathered ≡ text → gathered ++ more ≡ rest → took ++ rest ≡ text ++ more
joined took gathered more text rest all is =
    ap (λ (l : List ℕ). took ++ l) (sym is) ∙ sym (append_assoc took gathered more) ∙ ap (λ (l : List ℕ). l ++ more) all

module _ (first mid new : Option (List ℕ)) (gathered text : List ℕ) (held : Holds first mid gathered text) where
  behind_held : (octets : List ℕ) → new ≡ behind mid octets → new ≡ behind first (held.took ++ octets)
  behind_held octets is = is ∙ ap (λ (o : Option (List ℕ)). behind o octets) held.sink ∙ behind_again first held.took octets

  -- more octets go the way of those that are gathered
  pub holds_more : (later more : List ℕ) → Holds mid new later (gathered ++ more) → Holds first new later (text ++ more)
  holds_more later more next = record {
    took = held.took ++ next.took;
    sink = behind_held next.took next.sink;
    all = append_assoc held.took next.took later ∙ joined held.took gathered more text (next.took ++ later) held.all (sym next.all);
  }

  pub failed_more : (more : List ℕ) → Extends put.Failed mid new (gathered ++ more) → Extends put.Failed first new (text ++ more)
  failed_more more next =
      let front = next.0 in
      let rest = next.1.0 in (
        held.took ++ front,
        (rest, sym (joined held.took gathered more text (front ++ rest) held.all next.1.1) ∙ sym (append_assoc held.took front rest)),
        behind_held front next.2,
      )

  pub reached : (answer : Put) (more : List ℕ) → Extends answer mid new (gathered ++ more) → Extends answer first new (text ++ more)
  reached put.Done more next =
      behind_held (gathered ++ more) next ∙ ap (behind first) (joined held.took gathered more text (gathered ++ more) held.all refl)
  reached put.Failed more next = failed_more more next

  pub flushed : (answer : Put) → Extends answer mid new gathered → Extends answer first new text
  flushed answer next =
      subst (Extends answer first new) (append-nil text) (reached answer [] (subst (Extends answer mid new) (sym (append-nil gathered)) next))

-- a failed write in front of more octets
pub failed_before : (old new : Option (List ℕ)) (octets more : List ℕ) → Extends put.Failed old new octets → Extends put.Failed old new (octets ++ more)
failed_before old new octets more failed =
    let front = failed.0 in
    let rest = failed.1.0 in
    (front, (rest ++ more, ap (λ (l : List ℕ). l ++ more) failed.1.1 ∙ append_assoc front rest more), failed.2)

-- what was gathered is written, and then more octets
pub written_direct : (old mid new : Option (List ℕ)) (kept gathered more later : List ℕ) → kept ≡ gathered → later ≡ [] → mid ≡ behind old kept → (answer : Put) → Extends answer mid new more
    → (answer ≡ put.Done → Holds old new later (gathered ++ more)) × (answer ≡ put.Failed → Extends put.Failed old new (gathered ++ more))
written_direct old mid new kept gathered more later same none wrote put.Done next =
    let held : Holds old mid [] gathered = holds_none old mid gathered (wrote ∙ ap (behind old) same) in (
      λ done. subst (λ (l : List ℕ). Holds old new l (gathered ++ more)) (sym none) (holds_none old new (gathered ++ more) (reached old mid new [] gathered held put.Done more next)),
      λ failed. cc,
    )
written_direct old mid new kept gathered more later same none wrote put.Failed next =
    let held : Holds old mid [] gathered = holds_none old mid gathered (wrote ∙ ap (behind old) same) in
    (λ done. cc, λ failed. reached old mid new [] gathered held put.Failed more next)
