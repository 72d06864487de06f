use Rattle.savi_kinds.specs.AddrText.{groups_of}
use Rattle.savi_kinds.proofs.AddrWritten.{spelling_kept, spelling_only}
use Rattle.savi_kinds.proofs.text_laws.addr_texts_have_one_spelling.Goals as goal

pub returns-clause-kept : goal.returns-clause-kept
returns-clause-kept c = λ a. spelling_kept (groups_of a)

pub returns-clause-only : goal.returns-clause-only
returns-clause-only c = λ a text h. spelling_only text (groups_of a) h
