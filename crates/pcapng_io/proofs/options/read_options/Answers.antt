use Rattle.std.proofs.Common.{ℕ, List, [], ◌∷◌, ◌++◌, refl, sym, subst, ◌∙◌, inl, inr, lit<, arith, append-nil, length-append}
use Rattle.std.proofs.lemmas.Result.{err_from_is_err_and}
use Rattle.savi_ends.proofs.Octets.{takes_more}
use Rattle.pcap_io.proofs.CallsJoined.{takes_none}
use Rattle.pcapng_io.specs.Options.{HaveOptions}
use Rattle.pcapng_io.specs.declared.options.OptionRead.{OptionRead}
use Rattle.pcapng_io.specs.declared.options.OptionRead.TheVariants as option
use Rattle.pcapng_io.specs.Pieces.{AreFront, IsOptionRead}
use Rattle.pcapng_io.proofs.Parts.{stops_behind}
use Rattle.pcapng_io.proofs.Walks.{walked_none, walked_more, settle_none, settle_more, front_behind, walked_end}
use Rattle.pcapng_io.proofs.options.read_options.Goals as goal

pub loop-missing-init : goal.loop-missing-init
loop-missing-init g c = record {
  still = refl;
  words = c.requires.words;
  some = lit< tt;
  walked = ([], [], takes_none (g.S.Source.left c.args.source.now), omega arith, walked_none c.args.order, settle_none c.args.is_interface);
}

pub loop-missing-preserved : goal.loop-missing-preserved
loop-missing-preserved g c =
    let was = c.loop-missing.invariant in
    let w = was.walked in
    let told = c.in_ok-read_option.ensures.octets in
    let read : IsOptionRead c.args.order c.args.is_interface c.loop-missing.missing c.loop-missing.units (option.Next c.in-Next.size c.in-Next.settled) told.0 =
    subst (λ (r : OptionRead). IsOptionRead c.args.order c.args.is_interface c.loop-missing.missing c.loop-missing.units r told.0) c.in-Next.is told.2 in
    record {
      still = c.in_ok-read_option.ensures.still (λ same. absurd cc) ∙ was.still;
      words = omega (arith, was.words, read.0, read.3.1.size, read.1);
      some = read.2 was.some;
      walked = (
        w.0 ++ told.0,
        w.1 ++ read.3.0 ∷ [],
        takes_more w.0 told.0 _ _ _ w.2 told.1,
        omega (arith, w.3, read.0, read.1, length-append w.0 told.0),
        walked_more c.args.order w.1 w.0 told.0 read.3.0 w.4 read.3.1,
        settle_more c.args.is_interface w.1 read.3.0 c.loop-missing.units c.in-Next.settled w.5 read.3.2,
      );
    }

pub returns-in_err-read_option-clause-octets : goal.returns-in_err-read_option-clause-octets
returns-in_err-read_option-clause-octets g c =
    let p = err_from_is_err_and c.from_residual.result c.from_residual.ensures.1 in
    let w = c.loop-missing.invariant.walked in
    let one = c.in_err-read_option.ensures.octets in
    let missing = c.loop-missing.missing in (
      w.0 ++ one.0,
      takes_more w.0 one.0 _ _ _ w.2 one.1,
      rw (p.1, p.2) (
        stops_behind (AreFront c.args.order c.args.is_interface c.args.len) (AreFront c.args.order c.args.is_interface missing) w.0 one.0 c.in_err-read_option.field-0.0 (g.S.Source.left c.read_option.new.source)
            (λ first front. omega (arith, w.3, front.0))
            (λ x front. (x, [], sym (append-nil x), front_behind c.args.order c.args.is_interface c.args.len missing w.1 w.0 x w.4 w.3 front))
            one.2.0,
        omega (arith, w.3, one.2.1, length-append w.0 one.0),
      ),
    )

pub returns-in-End-clause-octets : goal.returns-in-End-clause-octets
returns-in-End-clause-octets g c =
    let w = c.loop-missing.invariant.walked in
    let one = c.in_ok-read_option.ensures.octets in
    let read : IsOptionRead c.args.order c.args.is_interface c.loop-missing.missing c.loop-missing.units option.End one.0 =
    subst (λ (r : OptionRead). IsOptionRead c.args.order c.args.is_interface c.loop-missing.missing c.loop-missing.units r one.0) c.in-End.is one.2 in (
      w.0 ++ one.0,
      takes_more w.0 one.0 _ _ _ w.2 one.1,
      (
        omega (arith, w.3, read.0, length-append w.0 one.0),
        walked_end c.args.order c.args.is_interface w.1 w.0 one.0 c.loop-missing.units w.4 w.5 (inr (omega (arith, read.0, read.1), read.2)),
      ),
    )

pub returns-clause-octets : goal.returns-clause-octets
returns-clause-octets g c =
    let w = c.loop-missing.invariant.walked in (
      w.0,
      w.2,
      (
        omega (arith, w.3),
        subst (λ (l : List ℕ). HaveOptions c.args.order c.args.is_interface c.loop-missing.units l) (append-nil w.0) (walked_end c.args.order c.args.is_interface w.1 w.0 [] c.loop-missing.units w.4 w.5 (inl refl)),
      ),
    )
