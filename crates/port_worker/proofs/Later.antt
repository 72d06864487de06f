-- The ends of a port, step after step.
use Rattle.std.proofs.Common.{◌≡◌, ℕ, ◌≤◌, List, [], ◌++◌, get_or, refl, sym, ap, ◌∙◌, subst, arith, append-nil, Option, Some, None}
use Rattle.savi_ends.specs.Octets.{behind, Takes}
use Rattle.savi_ends.proofs.Octets.{behind_again, takes_more}
use Rattle.port_worker.specs.declared.port_ends.PortEnds.{PortEnds}
use Rattle.port_worker.specs.Pairs.{EachPair}
use Rattle.port_worker.specs.Inputs.{IsLooked}
use Rattle.port_worker.specs.SentFrames.{TookMore, OnlySink}
use Rattle.port_worker.specs.Steps.{IsStepped}
use Rattle.port_worker.specs.Used.{IsUsed}
use Rattle.port_worker.proofs.Joining.{front_none}

-- a port before and after: the same port, and its ends were used, and no count of faults fell
pub record IsLater {S K C : Type 0} (left : S → Option (List ℕ)) (written : K → Option (List ℕ)) (source_faults : S → ℕ) (sink_faults : K → ℕ) (old new : PortEnds S K C) : Type 0 where
  pub port : new.port ≡ old.port
  pub used : IsUsed left written old.ends new.ends
  pub source : source_faults old.ends.source ≤ source_faults new.ends.source
  pub sink : sink_faults old.ends.sink ≤ sink_faults new.ends.sink

pub behind_none : (o : Option (List ℕ)) → o ≡ behind o []
behind_none None = refl
behind_none (Some written) = ap (λ (l : List ℕ). Some l) (sym (append-nil written))

pub took_none : (o : Option (List ℕ)) → TookMore o o
took_none o = ([], behind_none o)

pub took_again : (before mid after : Option (List ℕ)) → TookMore before mid → TookMore mid after → TookMore before after
took_again before mid after one two = (one.0 ++ two.0, two.1 ∙ ap (λ (o : Option (List ℕ)). behind o two.0) one.1 ∙ behind_again before one.0 two.0)

pub gave_again : (before mid after : Option (List ℕ)) → (octets : List ℕ) × Takes before mid octets → (octets : List ℕ) × Takes mid after octets → (octets : List ℕ) × Takes before after octets
gave_again before mid after one two = (one.0 ++ two.0, takes_more one.0 two.0 before mid after one.1 two.1)

module _ {S K C : Type 0} (left : S → Option (List ℕ)) (written : K → Option (List ℕ)) (source_faults : S → ℕ) (sink_faults : K → ℕ) where
  abbrev Later : PortEnds S K C → PortEnds S K C → Type 0
  Later old new = IsLater left written source_faults sink_faults old new

  later_itself : (p : PortEnds S K C) → Later p p
  later_itself p = record {
    port = refl;
    used = record { gave = ([], sym (front_none (left p.ends.source))); took = took_none (written p.ends.sink); clock = refl };
    source = omega arith;
    sink = omega arith;
  }

  later_looked : (first old new : PortEnds S K C) → Later first old → IsLooked left source_faults old new → Later first new
  later_looked first old new was look = record {
    port = look.port ∙ was.port;
    used = record {
      gave = gave_again (left first.ends.source) (left old.ends.source) (left new.ends.source) was.used.gave look.gave;
      took = rw look.sink was.used.took;
      clock = look.clock ∙ was.used.clock;
    };
    source = omega (arith, look.later, was.source);
    sink = rw look.sink was.sink;
  }

  later_stepped : (first old new : PortEnds S K C) → Later first old → IsStepped written sink_faults old new → Later first new
  later_stepped first old new was one =
      let source_is : old.ends.source ≡ new.ends.source = sym (ap (λ (p : PortEnds S K C). p.ends.source) one.same) in
      record {
        port = ap (λ (p : PortEnds S K C). p.port) one.same ∙ was.port;
        used = record {
          gave = subst (λ (s : S). (octets : List ℕ) × Takes (left first.ends.source) (left s) octets) source_is was.used.gave;
          took = took_again (written first.ends.sink) (written old.ends.sink) (written new.ends.sink) was.used.took one.took;
          clock = ap (λ (p : PortEnds S K C). p.ends.clock) one.same ∙ was.used.clock;
        };
        source = subst (λ (s : S). source_faults first.ends.source ≤ source_faults s) source_is was.source;
        sink = omega (arith, one.later, was.sink);
      }

  only_stepped : (p q : PortEnds S K C) → OnlySink written sink_faults p q → IsStepped written sink_faults p q
  only_stepped p q only = record {
    same = only.same ∙ ap (λ (r : PortEnds S K C). record p { ends = record p.ends { sink = q.ends.sink }; ahead = r.ahead }) (sym only.same);
    later = only.later;
    took = only.took;
  }

  pub sinks_stepped : (old new : List (PortEnds S K C)) → EachPair (OnlySink written sink_faults) old new → EachPair (IsStepped written sink_faults) old new
  sinks_stepped old new sinks = record { size = sinks.size; each = λ k d inside. only_stepped (get_or old k d) (get_or new k d) (sinks.each k d inside) }

  pub begun_later : (old new : List (PortEnds S K C)) → EachPair (OnlySink written sink_faults) old new → EachPair Later old new
  begun_later old new begun = record {
    size = begun.size;
    each = λ k d inside. later_stepped (get_or old k d) (get_or old k d) (get_or new k d) (later_itself (get_or old k d)) (only_stepped (get_or old k d) (get_or new k d) (begun.each k d inside));
  }

  pub looked_later : (first old new : List (PortEnds S K C)) → EachPair Later first old → EachPair (IsLooked left source_faults) old new → EachPair Later first new
  looked_later first old new later looked = record {
    size = looked.size ∙ later.size;
    each = λ k d inside. later_looked (get_or first k d) (get_or old k d) (get_or new k d) (later.each k d inside) (looked.each k d (omega (arith, later.size)));
  }

  pub stepped_later : (first old new : List (PortEnds S K C)) → EachPair Later first old → EachPair (IsStepped written sink_faults) old new → EachPair Later first new
  stepped_later first old new later stepped = record {
    size = stepped.size ∙ later.size;
    each = λ k d inside. later_stepped (get_or first k d) (get_or old k d) (get_or new k d) (later.each k d inside) (stepped.each k d (omega (arith, later.size)));
  }
