-- A plan that a configuration says is built, and what was read of a text answers for the whole.
use Rattle.std.proofs.Common.{◌≡◌, ◌<◌, ◌≤◌, inl, inr, ℕ, Bool, List, length, ◌++◌, Result, Ok, Err, subst, arith, length-append}
use Rattle.savi_kinds.specs.declared.plan.Plan.{Plan}
use Rattle.savi_conf.specs.declared.fault.Fault.TheVariants.{StreamInReplay}
use Rattle.savi_conf.specs.declared.fault.ConfFault.{ConfFault}
use Rattle.savi_conf.specs.declared.fault.ConfFault.TheVariants.{NoMemory, NotToml, Bad}
use Rattle.savi_conf.specs.Answers.{IsAnswer, most_octets}
use Rattle.savi_conf.proofs.Captures.{are_captures}
use Rattle.run_config.specs.Configs.{IsBuilt, IsWholeOrLong}

-- the plan of a replay is of captures, as its document asks for no stream then
pub built : (text : List ℕ) (replay : Bool) (plan : Plan) → IsAnswer text replay (Ok plan) → IsBuilt replay plan
built text replay plan (document, is, says) = record {
  valid = says.valid;
  captures = λ on. are_captures _ plan.ports says.says.ports (says.meets StreamInReplay on);
}

longer : (front text rest : List ℕ) → text ≡ front ++ rest → most_octets < length front → most_octets < length text
longer front text rest whole long = rw whole (omega (arith, long, length-append front rest))

pub of_long : (front text : List ℕ) (replay : Bool) (answer : Result Plan ConfFault) → most_octets < length front → most_octets < length text → IsAnswer front replay answer → IsAnswer text replay answer
of_long front text replay (Ok plan) long whole (document, is, says) = let short : length front ≤ most_octets = is.short in absurd (omega (arith, long, short))
of_long front text replay (Err NoMemory) long whole answer = tt
of_long front text replay (Err NotToml) long whole answer = let short : length front ≤ most_octets = answer.short in absurd (omega (arith, long, short))
of_long front text replay (Err (Bad number)) long whole (inl (is, _)) = inl (is, whole)
of_long front text replay (Err (Bad number)) long whole (inr (document, is, says)) = let short : length front ≤ most_octets = is.short in absurd (omega (arith, long, short))

-- what is answered of what was read is an answer of the whole
pub of_whole : (front text : List ℕ) (replay : Bool) (answer : Result Plan ConfFault) → IsWholeOrLong front text → IsAnswer front replay answer → IsAnswer text replay answer
of_whole front text replay answer (inl same) given = subst (λ (l : List ℕ). IsAnswer l replay answer) same given
of_whole front text replay answer (inr (long, (rest, whole))) given = of_long front text replay answer long (longer front text rest whole long) given
