use Rattle.std.proofs.Common.{◌≡◌, [], ◌++◌, length, Option, Some, None, sym, ap, subst, ◌∙◌, arith, length-append}
use Rattle.savi_ends.proofs.Octets.{takes_more}
use Rattle.savi_kinds.specs.declared.entry.How.TheVariants as how
use Rattle.pcapng_io.specs.Blocks.{Standing}
use Rattle.pcapng_io.specs.Readers.{Reading, IsSound, HasRead, Answers}
use Rattle.pcapng_io.specs.ReaderStates.{standing_of}
use Rattle.pcapng_io.specs.Answers.{answer_to, behind_read}
use Rattle.pcapng_io.specs.declared.block.Whole.{Whole}
use Rattle.pcapng_io.specs.declared.stop.Stop.{Stop}
use Rattle.pcapng_io.specs.declared.stop.Stop.TheVariants as stop
use Rattle.pcapng_io.specs.Pieces.{IsWhole, IsBlockRead, StopsHere, state_after}
use Rattle.pcapng_io.proofs.Readings.{end_whole, has_read_more, whole_read, whole_answers, whole_sound, end_behind, fail_behind}
use Rattle.pcapng_io.proofs.steps.read_on.Goals as goal

pub pass-requires : goal.pass-requires
pass-requires g c =
    let was = c.loop-whole.invariant in
    let s0 = standing_of c.args.position.now in
    let s = standing_of c.loop-whole.position in
    let w = was.read in
    let left = g.S.Source.left c.read_block.new.source in
    let one = c.in-Ok-Some.ensures.octets in
    let whole = c.in-Ok-Some.whole in
    let buf = c.read_block.new.buf in
    let is : IsWhole s whole buf one.0 = subst (λ (o : Option Whole). IsBlockRead s o buf one.0 left) c.in-Ok-Some.field-0-is one.2 in
    let sound = whole_sound s whole.block whole.size buf one.0 was.sound is.0 is.1 in
    sound.0

pub returns-in-Some-clause-octets : goal.returns-in-Some-clause-octets
returns-in-Some-clause-octets g c =
    let was = c.loop-whole.invariant in
    let s0 = standing_of c.args.position.now in
    let s = standing_of c.loop-whole.position in
    let w = was.read in
    let left = g.S.Source.left c.read_block.new.source in
    let one = c.in-Ok-Some.ensures.octets in
    let whole = c.in-Ok-Some.whole in
    let buf = c.read_block.new.buf in
    let is : IsWhole s whole buf one.0 = subst (λ (o : Option Whole). IsBlockRead s o buf one.0 left) c.in-Ok-Some.field-0-is one.2 in
    let sound = whole_sound s whole.block whole.size buf one.0 was.sound is.0 is.1 in
    let told : answer_to whole.block ≡ Some c.in-Some.answer = sym c.answer.ensures ∙ c.in-Some.is in (
      w.0 ++ one.0,
      takes_more w.0 one.0 _ _ _ w.1 one.1,
      subst (λ (now : Standing). Answers (Reading s0) (state_after c.in-Some.answer now) (w.0 ++ one.0) buf left c.in-Some.answer) (sym c.pass.ensures)
          (whole_answers s0 s whole.block whole.size buf w.0 one.0 left c.in-Some.answer w.2 w.3 is.0 is.1 told),
    )

pub returns-in-Some-clause-sound : goal.returns-in-Some-clause-sound
returns-in-Some-clause-sound g c =
    let was = c.loop-whole.invariant in
    let s0 = standing_of c.args.position.now in
    let s = standing_of c.loop-whole.position in
    let w = was.read in
    let left = g.S.Source.left c.read_block.new.source in
    let one = c.in-Ok-Some.ensures.octets in
    let whole = c.in-Ok-Some.whole in
    let buf = c.read_block.new.buf in
    let is : IsWhole s whole buf one.0 = subst (λ (o : Option Whole). IsBlockRead s o buf one.0 left) c.in-Ok-Some.field-0-is one.2 in
    let sound = whole_sound s whole.block whole.size buf one.0 was.sound is.0 is.1 in
    subst IsSound (sym c.pass.ensures) sound.0

pub loop-whole-preserved : goal.loop-whole-preserved
loop-whole-preserved g c =
    let was = c.loop-whole.invariant in
    let s0 = standing_of c.args.position.now in
    let s = standing_of c.loop-whole.position in
    let w = was.read in
    let left = g.S.Source.left c.read_block.new.source in
    let one = c.in-Ok-Some.ensures.octets in
    let whole = c.in-Ok-Some.whole in
    let buf = c.read_block.new.buf in
    let is : IsWhole s whole buf one.0 = subst (λ (o : Option Whole). IsBlockRead s o buf one.0 left) c.in-Ok-Some.field-0-is one.2 in
    let sound = whole_sound s whole.block whole.size buf one.0 was.sound is.0 is.1 in
    let none : answer_to whole.block ≡ None = sym c.answer.ensures ∙ c.in_default.is in
    let read : HasRead (Reading s) (Reading (behind_read s whole.block whole.size)) one.0 [] = whole_read s whole.block whole.size buf one.0 is.0 is.1 none in
    record {
      still = c.in-Ok-Some.ensures.still (λ same. absurd cc) ∙ was.still;
      sound = subst IsSound (sym c.pass.ensures) sound.0;
      read = (
        w.0 ++ one.0,
        takes_more w.0 one.0 _ _ _ w.1 one.1,
        subst (λ (now : Standing). HasRead (Reading s0) (Reading now) (w.0 ++ one.0) []) (sym c.pass.ensures) (has_read_more (Reading s0) (Reading s) (Reading (behind_read s whole.block whole.size)) w.0 one.0 [] [] w.2 read),
        omega (arith, ap (λ (now : Standing). now.place) c.pass.ensures, sound.2, is.1, w.3, length-append w.0 one.0),
      );
    }

pub loop-whole-smaller : goal.loop-whole-smaller
loop-whole-smaller g c =
    let was = c.loop-whole.invariant in
    let s0 = standing_of c.args.position.now in
    let s = standing_of c.loop-whole.position in
    let w = was.read in
    let left = g.S.Source.left c.read_block.new.source in
    let one = c.in-Ok-Some.ensures.octets in
    let whole = c.in-Ok-Some.whole in
    let buf = c.read_block.new.buf in
    let is : IsWhole s whole buf one.0 = subst (λ (o : Option Whole). IsBlockRead s o buf one.0 left) c.in-Ok-Some.field-0-is one.2 in
    let sound = whole_sound s whole.block whole.size buf one.0 was.sound is.0 is.1 in
    omega (arith, ap (λ (now : Standing). now.place) c.pass.ensures, sound.2, sound.1, sound.0.placed)

pub returns-in-Ok-None-clause-octets : goal.returns-in-Ok-None-clause-octets
returns-in-Ok-None-clause-octets g c =
    let was = c.loop-whole.invariant in
    let s0 = standing_of c.args.position.now in
    let s = standing_of c.loop-whole.position in
    let w = was.read in
    let left = g.S.Source.left c.read_block.new.source in
    let one = c.in-Ok-None.ensures.octets in
    let is : IsBlockRead s None c.read_block.new.buf one.0 left = subst (λ (o : Option Whole). IsBlockRead s o c.read_block.new.buf one.0 left) c.in-Ok-None.field-0-is one.2 in
    (w.0 ++ one.0, takes_more w.0 one.0 _ _ _ w.1 one.1, end_behind s0 s how.End w.0 one.0 left w.2 w.3 (is.0, is.1) (end_whole s one.0 left is.0 is.1 is.2) (omega (arith, ap length is.0)))

pub returns-in-Err-Malformed-clause-octets : goal.returns-in-Err-Malformed-clause-octets
returns-in-Err-Malformed-clause-octets g c =
    let was = c.loop-whole.invariant in
    let s0 = standing_of c.args.position.now in
    let s = standing_of c.loop-whole.position in
    let w = was.read in
    let left = g.S.Source.left c.read_block.new.source in
    let one = c.in-Err-Malformed.ensures.octets in
    let is : StopsHere s stop.Malformed one.0 left = subst (λ (e : Stop). StopsHere s e one.0 left) c.in-Err-Malformed.field-0-is one.2 in
    (w.0 ++ one.0, takes_more w.0 one.0 _ _ _ w.1 one.1, end_behind s0 s (how.Malformed s.place) w.0 one.0 left w.2 w.3 is.0 is.1 is.2)

pub returns-in-Err-Failed-clause-octets : goal.returns-in-Err-Failed-clause-octets
returns-in-Err-Failed-clause-octets g c =
    let was = c.loop-whole.invariant in
    let s0 = standing_of c.args.position.now in
    let s = standing_of c.loop-whole.position in
    let w = was.read in
    let left = g.S.Source.left c.read_block.new.source in
    let one = c.in-Err-Failed.ensures.octets in
    let is : StopsHere s stop.Failed one.0 left = subst (λ (e : Stop). StopsHere s e one.0 left) c.in-Err-Failed.field-0-is one.2 in
    (w.0 ++ one.0, takes_more w.0 one.0 _ _ _ w.1 one.1, fail_behind s0 s w.0 one.0 w.2 is)
