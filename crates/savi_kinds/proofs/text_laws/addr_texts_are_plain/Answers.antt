use Rattle.savi_kinds.proofs.AddrWritten.{plain_chars, least_len, most_len}
use Rattle.savi_kinds.proofs.text_laws.addr_texts_are_plain.Goals as goal

pub returns-clause-characters : goal.returns-clause-characters
returns-clause-characters c = plain_chars

pub returns-clause-least : goal.returns-clause-least
returns-clause-least c = least_len

pub returns-clause-most : goal.returns-clause-most
returns-clause-most c = most_len
