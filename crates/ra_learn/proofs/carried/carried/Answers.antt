use Rattle.std.proofs.Common.{◌≡◌, ◌≤◌, List, ℕ, length, Option, Some, None, sym, ◌∙◌, ap, subst, refl, inl, inr}
use Rattle.std.specs.Option.{MatchOption}
use Rattle.std.proofs.lemmas.List.{take_rest}
use Rattle.std.proofs.lemmas.Bool.{false≢true, ne_eqb, le-leb, lt-leb, cases_lt}
use Rattle.eth_frame.specs.declared.header.Eth.{Eth}
use Rattle.eth_frame.specs.Frame.{header_of, payload_of}
use Rattle.ra_learn.specs.Carried.{Carried, carried, carried_in}
use Rattle.ra_learn.proofs.carried.carried.Goals as goal

pub returns-in_default-clause-value : goal.returns-in_default-clause-value
unfolding carried
returns-in_default-clause-value c =
    let frame : List ℕ = c.args.frame.now in
    elim (cases_lt (length frame) 14) [
      | inl short ↦ rw (lt-leb 14 (length frame) short) refl
      | inr long ↦ absurd (false≢true (c.in_default.ensures.read.1 (long, c.requires)))
    ]

pub returns-then-eth-clause-value : goal.returns-then-eth-clause-value
unfolding carried
returns-then-eth-clause-value c =
    let frame : List ℕ = c.args.frame.now in
    let long : 14 ≤ length frame = (c.in-Ok.ensures.read.0 refl).0 in
    let kind : (header_of frame).kind ≡ c.in-Ok.eth.kind = ap (λ (e : Eth). e.kind) (sym c.in-Ok.ensures.header) in
    rw (le-leb 14 (length frame) long, ne_eqb (header_of frame).kind 34525 (λ is. c.if-eth.true (sym kind ∙ is))) refl

pub returns-clause-value : goal.returns-clause-value
unfolding carried
returns-clause-value c =
    let frame : List ℕ = c.args.frame.now in
    let long : 14 ≤ length frame = (c.in-Ok.ensures.read.0 refl).0 in
    let kind : (header_of frame).kind ≡ 34525 = ap (λ (e : Eth). e.kind) (sym c.in-Ok.ensures.header) ∙ c.if-eth.false in
    let P : Option Carried → Type 0 = λ found. MatchOption c.carried_in.result (found ≡ None) (λ x. found ≡ Some (record { ip = x.0; message = x.1.now })) in
    let same : carried_in (payload_of frame) ≡ carried frame = rw (le-leb 14 (length frame) long, kind) refl in
    subst P (ap carried_in (take_rest frame 14) ∙ same) c.carried_in.ensures.value
