use Rattle.hist_store.proofs.line_laws.an_entry_has_one_line.Goals as goal

pub returns : goal.returns
returns c = λ line n row says. says.text
