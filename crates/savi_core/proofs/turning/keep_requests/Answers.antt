use Rattle.std.proofs.Common.{◌≡◌, ℕ, ◌≤◌, ◌++◌, List, length, take, sym, ap, subst, ◌∙◌, arith, ◌+◌}
use Rattle.std.proofs.lemmas.List.{append-nil, append_assoc, take_all}
use Rattle.dhcp_states.specs.declared.request.Request.{Request}
use Rattle.dhcp_states.specs.Requests.{open_at}
use Rattle.checkpoint.specs.Columns.{Columns, IsUpTo}
use Rattle.savi_core.specs.declared.vlan_set.VlanSet.{VlanSet}
use Rattle.savi_core.specs.VlanSets.{of_sets}
use Rattle.savi_core.specs.Turns.{with_requests}
use Rattle.savi_core.proofs.Keeping.{each_of, sets_more, sets_few, sets_up}
use Rattle.savi_core.proofs.turning.keep_requests.Goals as goal

pub loop-set-init : goal.loop-set-init
loop-set-init c = ap (λ (column : List (ℕ × Request)). record c.args.into.now { requests = column }) (sym (append-nil c.args.into.now.requests))

pub keep_requests_of-requires : goal.keep_requests_of-requires
keep_requests_of-requires c =
    let sets : List VlanSet = c.args.sets.now in
    let i : ℕ = c.loop-set.set-index in
    let set : VlanSet = c.set-item.result in
    let has : VlanSet → List Request = λ (set : VlanSet). open_at c.args.t set.access.requests in
    let column_is : c.loop-set.into.requests ≡ of_sets has (take i sets) =
    ap (λ (k : Columns). k.requests) c.loop-set.invariant ∙ ap (λ (column : List (ℕ × Request)). column ++ of_sets has (take i sets)) c.requires.empty in
    let few : length (of_sets has (take i sets)) + length (has set) ≤ length (of_sets has sets) = sets_few has sets i set c.loop-set-test.true c.set-item.is in
    record {
      order = subst (λ (column : List (ℕ × Request)). IsUpTo set.access.vlan column) (sym column_is) (sets_up has sets i set c.requires.order c.loop-set-test.true c.set-item.is);
      few = omega (arith, ap length column_is, few, c.requires.few);
    }

pub loop-set-preserved : goal.loop-set-preserved
loop-set-preserved c =
    let sets : List VlanSet = c.args.sets.now in
    let i : ℕ = c.loop-set.set-index in
    let set : VlanSet = c.set-item.result in
    let has : VlanSet → List Request = λ (set : VlanSet). open_at c.args.t set.access.requests in
    let start : Columns = c.args.into.now in
    c.keep_requests_of.ensures
    ∙ ap (with_requests (each_of set.access.vlan (has set))) c.loop-set.invariant
    ∙ ap (λ (column : List (ℕ × Request)). record start { requests = column })
    (append_assoc start.requests (of_sets has (take i sets)) (each_of set.access.vlan (has set))
    ∙ ap (λ (more : List (ℕ × Request)). start.requests ++ more) (sym (sets_more has sets i set c.loop-set-test.true c.set-item.is)))

pub returns : goal.returns
returns c =
    let has : VlanSet → List Request = λ (set : VlanSet). open_at c.args.t set.access.requests in
    c.loop-set.invariant ∙ ap (λ (sets : List VlanSet). with_requests (of_sets has sets) c.args.into.now) (take_all c.loop-set.set-index c.args.sets.now (omega (arith, c.loop-set-test.false)))
