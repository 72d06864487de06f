use Rattle.std.proofs.Common.{ℕ, ◌≡◌, ◌<◌, ◌+◌, ◌∷◌, [], ◌++◌, List, length, take, set, sym, ap, ◌∙◌, subst, arith, length-set, length-take-le, length-append}
use Rattle.std.proofs.lemmas.List.{take_more_set}
use Rattle.savi_ends.proofs.Octets.{takes_more}
use Rattle.cli_lang.specs.Arrivals.{HasNoFeed}
use Rattle.cli_lang.specs.declared.ahead.Octet.TheVariants as octets
use Rattle.cli_lang.proofs.LineTaken.{taken_more, taken_all, no_feed_more, one_behind, cut_apart}
use Rattle.cli_lang.proofs.Unread.{Unread, unread_more, unread_so}
use Rattle.cli_lang.proofs.taking.take_line.Goals as goal

-- the octet that was given is the first that was held
one_octet : (octet : ℕ) (ahead new : List ℕ) → ((c : ℕ) × (octets.Is octet ≡ octets.Is c) × (ahead ≡ c ∷ new)) → ahead ≡ octet ∷ new
one_octet octet ahead new held =
    let same : octets.Is octet ≡ octets.Is held.0 = held.1 in
    let is : octet ≡ held.0 = cc in
    held.2 ∙ ap (λ (c : ℕ). c ∷ new) (sym is)

pub loop-octet-preserved : goal.loop-octet-preserved
loop-octet-preserved g c =
    let was = c.loop-octet.invariant in
    let n = c.loop-octet.n in
    let buf = c.loop-octet.buf in
    let octet = c.in-Is.octet in
    let one = c.in-Is.ensures.octets in
    let inside : n < length buf = omega (arith, was.size, was.within, c.if-n-eq120.false) in
    let written : take (n + 1) (set buf n octet) ≡ take n buf ++ (octet ∷ []) = take_more_set buf n octet inside in
    let octets = taken_more c.args.ahead.now was.taken.0 one.0 (take n buf) c.loop-octet.ahead (octet ∷ c.next.new.self) was.taken.2 one.2 in
    record {
      still = c.in-Is.ensures.still (λ same. absurd cc) ∙ was.still;
      size = length-set buf n octet ∙ was.size;
      within = omega (arith, was.size, inside);
      apart = subst HasNoFeed (sym written) (no_feed_more (take n buf) octet was.apart c.if-octet-eq-LINE_FEED.false);
      taken = (
        was.taken.0 ++ one.0,
        takes_more was.taken.0 one.0 _ _ _ was.taken.1 one.1,
        one_behind (take n buf) c.next.new.self octet _ octets ∙ ap (λ (l : List ℕ). l ++ c.next.new.self) (sym written),
      );
      unread =
          subst (λ (text : List ℕ). Unread c.next.new.source c.args.source.now c.args.ahead.now text c.next.new.self) (sym written)
          (unread_more c.next.new.source c.loop-octet.source c.args.source.now c.args.ahead.now (take n buf) c.loop-octet.ahead c.next.new.self octet was.unread
          (λ some. let held = c.in-Is.ensures.held some in (held.0, one_octet octet c.loop-octet.ahead c.next.new.self held.1)));
    }

pub returns-in-End-clause-octets : goal.returns-in-End-clause-octets
returns-in-End-clause-octets g c =
    let was = c.loop-octet.invariant in
    let one = c.in-End.ensures.octets in (
      was.taken.0 ++ one.0,
      takes_more was.taken.0 one.0 _ _ _ was.taken.1 one.1,
      (
        omega (arith, was.size, was.within),
        was.apart,
        taken_all c.args.ahead.now was.taken.0 one.0 _ c.loop-octet.ahead [] was.taken.2 one.2.0,
        one.2.2,
      ),
    )

pub returns-in-Failed-clause-octets : goal.returns-in-Failed-clause-octets
returns-in-Failed-clause-octets g c =
    let was = c.loop-octet.invariant in
    let text = take c.loop-octet.n c.loop-octet.buf in
    let one = c.in-Failed.ensures.octets in
    let octets = taken_all c.args.ahead.now was.taken.0 one.0 text c.loop-octet.ahead [] was.taken.2 one.2.0 in
    let size : length text ≡ c.loop-octet.n = length-take-le c.loop-octet.n c.loop-octet.buf (omega (arith, was.size, was.within)) in (
      was.taken.0 ++ one.0,
      takes_more was.taken.0 one.0 _ _ _ was.taken.1 one.1,
      (cut_apart text _ octets was.apart, omega (arith, ap length octets, size, was.within)),
    )

pub returns-then-octet-eq-LINE_FEED-clause-octets : goal.returns-then-octet-eq-LINE_FEED-clause-octets
returns-then-octet-eq-LINE_FEED-clause-octets g c =
    let was = c.loop-octet.invariant in
    let one = c.in-Is.ensures.octets in
    let feed = one.2 ∙ ap (λ (b : ℕ). b ∷ c.next.new.self) c.if-octet-eq-LINE_FEED.true in (
      was.taken.0 ++ one.0,
      takes_more was.taken.0 one.0 _ _ _ was.taken.1 one.1,
      (
        omega (arith, was.size, was.within),
        was.apart,
        taken_more c.args.ahead.now was.taken.0 one.0 _ c.loop-octet.ahead (10 ∷ c.next.new.self) was.taken.2 feed,
      ),
    )

pub returns-then-n-eq120-clause-octets : goal.returns-then-n-eq120-clause-octets
returns-then-n-eq120-clause-octets g c =
    let was = c.loop-octet.invariant in
    let octet = c.in-Is.octet in
    let text = take c.loop-octet.n c.loop-octet.buf in
    let one = c.in-Is.ensures.octets in
    let octets = taken_more c.args.ahead.now was.taken.0 one.0 text c.loop-octet.ahead (octet ∷ c.next.new.self) was.taken.2 one.2 in
    let size : length text ≡ c.loop-octet.n = length-take-le c.loop-octet.n c.loop-octet.buf (omega (arith, was.size, was.within)) in (
      was.taken.0 ++ one.0,
      takes_more was.taken.0 one.0 _ _ _ was.taken.1 one.1,
      (
        text ++ (octet ∷ []),
        omega (arith, size, c.if-n-eq120.true, length-append text (octet ∷ [])),
        no_feed_more text octet was.apart c.if-octet-eq-LINE_FEED.false,
        one_behind text c.next.new.self octet _ octets,
      ),
    )

pub returns-in-End-clause-unread : goal.returns-in-End-clause-unread
returns-in-End-clause-unread g c =
    let was = c.loop-octet.invariant in
    let text = take c.loop-octet.n c.loop-octet.buf in
    let size : length text ≡ c.loop-octet.n = length-take-le c.loop-octet.n c.loop-octet.buf (omega (arith, was.size, was.within)) in
    unread_so c.next.new.source c.loop-octet.source c.args.source.now c.args.ahead.now text c.loop-octet.ahead was.apart (omega (arith, size, was.within)) was.unread (λ some. (c.in-End.ensures.held some).0)

pub returns-in-Failed-clause-unread : goal.returns-in-Failed-clause-unread
returns-in-Failed-clause-unread g c =
    let was = c.loop-octet.invariant in
    let text = take c.loop-octet.n c.loop-octet.buf in
    let size : length text ≡ c.loop-octet.n = length-take-le c.loop-octet.n c.loop-octet.buf (omega (arith, was.size, was.within)) in
    unread_so c.next.new.source c.loop-octet.source c.args.source.now c.args.ahead.now text c.loop-octet.ahead was.apart (omega (arith, size, was.within)) was.unread (λ some. (c.in-Failed.ensures.held some).0)

pub returns-then-octet-eq-LINE_FEED-clause-unread : goal.returns-then-octet-eq-LINE_FEED-clause-unread
returns-then-octet-eq-LINE_FEED-clause-unread g c =
    let was = c.loop-octet.invariant in
    let text = take c.loop-octet.n c.loop-octet.buf in
    let size : length text ≡ c.loop-octet.n = length-take-le c.loop-octet.n c.loop-octet.buf (omega (arith, was.size, was.within)) in
    unread_so c.next.new.source c.loop-octet.source c.args.source.now c.args.ahead.now text c.loop-octet.ahead was.apart (omega (arith, size, was.within)) was.unread (λ some. (c.in-Is.ensures.held some).0)

pub returns-then-n-eq120-clause-unread : goal.returns-then-n-eq120-clause-unread
returns-then-n-eq120-clause-unread g c =
    let was = c.loop-octet.invariant in
    let text = take c.loop-octet.n c.loop-octet.buf in
    let size : length text ≡ c.loop-octet.n = length-take-le c.loop-octet.n c.loop-octet.buf (omega (arith, was.size, was.within)) in
    unread_so c.next.new.source c.loop-octet.source c.args.source.now c.args.ahead.now text c.loop-octet.ahead was.apart (omega (arith, size, was.within)) was.unread (λ some. (c.in-Is.ensures.held some).0)
