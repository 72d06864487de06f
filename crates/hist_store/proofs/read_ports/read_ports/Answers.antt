use Rattle.std.proofs.Common.{Some, refl, sym, ap, subst, ◌∙◌, arith, true≢false}
use Rattle.savi_kinds.specs.declared.port.PortSet.{PortSet}
use Rattle.hist_store.specs.PortTexts.{ListsMembersAbove}
use Rattle.hist_store.proofs.PortsRead.{ports_text-none, dash_is, starts, finished, if_some, none_is}
use Rattle.hist_store.proofs.read_ports.read_ports.Goals as goal

pub read_members-requires : goal.read_members-requires
read_members-requires c = rw c.empty-2.ensures (λ n low high. none_is n)

pub returns-then-is_word-clause-read : goal.returns-then-is_word-clause-read
returns-then-is_word-clause-read c = rw c.empty.ensures (c.if-is_word.ensures.0 refl ∙ sym ports_text-none, omega arith)

pub returns-then-is_word-clause-whole : goal.returns-then-is_word-clause-whole
returns-then-is_word-clause-whole c = λ set small is. ap Some (c.empty.ensures ∙ dash_is set small (sym (c.if-is_word.ensures.0 refl) ∙ is))

pub returns-clause-read : goal.returns-clause-read
returns-clause-read c = if_some _ _ _ (λ set goes. finished set c.args.field.now (subst (λ (s : PortSet). ListsMembersAbove 0 s set c.args.field.now) c.empty-2.ensures goes)) c.read_members.ensures.read

pub returns-clause-whole : goal.returns-clause-whole
returns-clause-whole c = λ set small is. c.read_members.ensures.whole set (subst (λ (s : PortSet). ListsMembersAbove 0 s set c.args.field.now) (sym c.empty-2.ensures) (starts set c.args.field.now small is (λ e. true≢false (sym (c.if-is_word.ensures.1 e)))))
