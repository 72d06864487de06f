use Rattle.std.proofs.Common.{◌≡◌, ◌∙◌, append_assoc}
use Rattle.savi_kinds.specs.AddrText.{addr_text}
use Rattle.ra_learn.proofs.lines.put_router.Goals as goal

pub returns : goal.returns
returns c =
    let source : c.as_bytes.result.now ≡ addr_text c.args.router.source = c.as_bytes.ensures.value ∙ c.deref.ensures.0 ∙ c.put_addr.ensures in
    simp (c.put_last_number.ensures, c.put_number.ensures.text, c.put_word-2.ensures.text, c.put_word.ensures.text, c.new-line.ensures, source, c.from.ensures, c.get.ensures.value, append_assoc)
