use Rattle.std.proofs.Common.{◌≡◌, ◌≤◌, ◌++◌, [], refl, inl, List, ℕ, length, take, sym, ap, ◌∙◌, arith, append-nil, length-append, length-take-le}
use Rattle.std.proofs.lemmas.List.{take-append-drop}
use Rattle.savi_ends.proofs.Octets.{takes_more}
use Rattle.stream_io.proofs.AheadHeld.{takes_none, used_more, unread_more, used_all}
use Rattle.stream_io.proofs.ahead.Ahead.pass_over.Goals as goal

pub loop-missing-preserved : goal.loop-missing-preserved
loop-missing-preserved g c =
    let was = c.loop-missing.invariant in
    let front = was.taken.0 in
    let took = c.in-Bytes.ensures.octets in
    let now = c.hold.new.self in
    let n = c.min-n.result in
    let fits : n ≤ length now = omega (arith, c.min-n.ensures, c.in-Bytes.ensures.holds) in
    let used : now ≡ take n now ++ c.skip.new.self = sym (take-append-drop n now) ∙ ap (λ (l : List ℕ). take n now ++ l) (sym c.skip.ensures) in
    let part : length (take n now) ≡ n = length-take-le n now fits in
    record {
      still = c.in-Bytes.ensures.still (λ same. absurd cc) ∙ was.still;
      taken = (
        front ++ take n now,
        was.taken.1 ++ took.0,
        omega (arith, was.taken.2, part, c.min-n.ensures, length-append front (take n now)),
        takes_more was.taken.1 took.0 _ _ _ was.taken.3 took.1,
        used_more c.args.self.now was.taken.1 took.0 front c.loop-missing.self now (take n now) c.skip.new.self was.taken.4 took.2 used,
        unread_more c.hold.new.source c.loop-missing.source c.args.source.now c.args.self.now front c.loop-missing.self now (take n now) c.skip.new.self was.taken.5 c.in-Bytes.ensures.unread used (omega (arith, part, c.min-n.ensures, c.in-Bytes.ensures.holds, c.loop-missing-test.true)),
      );
    }

pub loop-missing-init : goal.loop-missing-init
loop-missing-init g c = record {
  still = refl;
  taken = ([], [], omega arith, takes_none (g.S.Source.left c.args.source.now), append-nil c.args.self.now, inl (refl, refl));
}

pub returns-in-End-clause-octets : goal.returns-in-End-clause-octets
returns-in-End-clause-octets g c =
    let was = c.loop-missing.invariant in
    let took = c.in-End.ensures.octets in
    let all = used_all c.args.self.now was.taken.1 took.0 was.taken.0 c.loop-missing.self c.hold.new.self was.taken.4 took.2 c.in-End.ensures.holds.0 in (
      was.taken.1 ++ took.0,
      takes_more was.taken.1 took.0 _ _ _ was.taken.3 took.1,
      (omega (arith, ap length all, was.taken.2, c.loop-missing-test.true), c.in-End.ensures.holds.1),
    )

pub returns-in-Failed-clause-octets : goal.returns-in-Failed-clause-octets
returns-in-Failed-clause-octets g c =
    let was = c.loop-missing.invariant in
    let took = c.in-Failed.ensures.octets in
    let all = used_all c.args.self.now was.taken.1 took.0 was.taken.0 c.loop-missing.self c.hold.new.self was.taken.4 took.2 c.in-Failed.ensures.holds in (
      was.taken.1 ++ took.0,
      takes_more was.taken.1 took.0 _ _ _ was.taken.3 took.1,
      omega (arith, ap length all, was.taken.2, c.loop-missing-test.true),
    )
