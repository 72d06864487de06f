-- The ports that are kept beside each row.
use Rattle.std.proofs.Common.{◌≡◌, ◌≢◌, ◌⊎◌, ℕ, ◌-◌, ◌≤◌, ◌<◌, Bool, cond, Some, None, List, [], ◌∷◌, zero, suc, length, get_or, sym, ◌∙◌, ap, subst, inl, inr, arith, get_or-set_other, get_or-set_same}
use Rattle.std.proofs.Math.ListN.{set, length-set}
use Rattle.std.proofs.lemmas.Bool.{cases_eq}
use Rattle.std.proofs.lemmas.Bool.Decides.{nat_tests}
use Rattle.slab.specs.Slab.{Slab, get, Updates}
use Rattle.savi_kinds.specs.declared.port.PortSet.{PortSet}
use Rattle.savi_kinds.specs.PortSets.{no_ports}
use Rattle.addr_index.specs.Indexes.{Index, key_in}
use Rattle.mix_rules.specs.declared.state.AddrState.{AddrState}
use Rattle.mix_rules.specs.States.{nobody}
use Rattle.savi_access.specs.declared.row.Row.{Row}
use Rattle.savi_access.specs.Rows.{address_row, state_in}
use Rattle.savi_access.proofs.Held.{held_once}
use Rattle.bind_table.proofs.Recounts.{IsRecounted}
use Rattle.bind_table.specs.Counts.{once_in, AreMoved, AreHolders}
use Rattle.bind_table.specs.Kept.{IsKept, HasPorts, HasHolders}
use Rattle.bind_table.proofs.KeptChanges.{row_by_key}
use Rattle.bind_table.proofs.Tables.{counts_least}

-- a port is in the set as often as it holds the address
pub once_held : (ports : PortSet) (state : AddrState) (port : ℕ) → AreHolders state ports → 1 ≤ port → once_in ports port ≡ held_once port state
once_held ports state port are low = ap (λ (b : Bool). cond b 1 0) (are port low)

-- what is counted where an address goes from the ports of one state to those of another one
pub recounted_by : (left came : PortSet) (before after : AddrState) (old new : List ℕ) → AreHolders before left → AreHolders after came → AreMoved left came old new → IsRecounted before after old new
recounted_by left came before after old new held holds moved port low high =
    omega (arith, moved port low high, once_held left before port held low, once_held came after port holds low)

-- what is read of the sets that are kept
pub read_ports : (held : List PortSet) (key : ℕ) (ports : PortSet) → key < length held → ports ≡ get_or held key ports → ports ≡ get_or held key no_ports
read_ports [] key ports within is = absurd (omega (arith, within))
read_ports (first ∷ held) zero ports within is = is
read_ports (first ∷ held) (suc key) ports within is = read_ports held key ports (omega (arith, within)) is

-- the state without a port
pub nobody_held : AreHolders nobody no_ports
nobody_held port low = grind (arith, nat_tests)

-- the ports of the state of an address that has a key
pub ports_of : (slab : Slab Row) (index : Index) (keys counts : List ℕ) (rows : List Row) (held : List PortSet) (a key : ℕ) → IsKept slab index keys counts rows → HasHolders slab held → key_in index a ≡ Some key → HasPorts held key (state_in rows a)
ports_of slab index keys counts rows held a key kept holders is = holders.rows key (address_row a (state_in rows a)) (row_by_key slab index keys counts rows a key kept is)

-- what is kept for a port counts the address, where the port is in the set
pub ports_least : (slab : Slab Row) (index : Index) (keys counts : List ℕ) (rows : List Row) (held : List PortSet) (a key : ℕ) (ports : PortSet) → IsKept slab index keys counts rows → HasHolders slab held → key_in index a ≡ Some key → ports ≡ get_or held key no_ports → (port : ℕ) → 1 ≤ port → port ≤ 16 → once_in ports port ≤ get_or counts (port - 1) 0
ports_least slab index keys counts rows held a key ports kept holders is same port low high =
    let there : HasPorts held key (state_in rows a) = ports_of slab index keys counts rows held a key kept holders is in
    let are : AreHolders (state_in rows a) ports = subst (AreHolders (state_in rows a)) (sym same) there.are in
    omega (arith, once_held ports (state_in rows a) port are low, counts_least slab index keys counts rows a kept port low high)

-- a row comes, or is replaced
pub HasHolders-put : (slab later : Slab Row) (held : List PortSet) (key a : ℕ) (state : AddrState) (came : PortSet) → HasHolders slab held → Updates slab later key (Some (address_row a state)) → later.capacity ≡ slab.capacity → key < length held → AreHolders state came → HasHolders later (set held key came)
HasHolders-put slab later held key a state came holders changed same within are = record {
  rows = λ other row there. go other row there (cases_eq other key);
  room = rw (length-set {A = PortSet} held key came) (omega (arith, same, holders.room));
}
  where
    go : (other : ℕ) (row : Row) → get later other ≡ Some row → (other ≡ key) ⊎ (other ≢ key) → HasPorts (set held key came) other row.state
    go other row there (inl is) =
        let told : get later key ≡ Some row = subst (λ (k : ℕ). get later k ≡ Some row) is there in
        let renewed : get later key ≡ Some (address_row a state) = changed.changed in
        let mine : row ≡ address_row a state = cc in
        rw (is, mine) (record {
          within = rw (length-set {A = PortSet} held key came) within;
          are = rw (get_or-set_same held key came no_ports within) are;
        })
    go other row there (inr differs) =
        let before : HasPorts held other row.state = holders.rows other row (sym (changed.others other differs) ∙ there) in
        record {
          within = rw (length-set {A = PortSet} held key came) before.within;
          are = rw (get_or-set_other held key other came no_ports differs) before.are;
        }

-- a row goes
pub HasHolders-remove : (slab later : Slab Row) (held : List PortSet) (key : ℕ) → HasHolders slab held → Updates slab later key None → later.capacity ≡ slab.capacity → HasHolders later held
HasHolders-remove slab later held key holders changed same = record {
  rows = λ other row there. go other row there (cases_eq other key);
  room = omega (arith, same, holders.room);
}
  where
    go : (other : ℕ) (row : Row) → get later other ≡ Some row → (other ≡ key) ⊎ (other ≢ key) → HasPorts held other row.state
    go other row there (inl is) =
        let told : get later key ≡ Some row = subst (λ (k : ℕ). get later k ≡ Some row) is there in
        let gone : get later key ≡ None = changed.changed in
        cc
    go other row there (inr differs) = holders.rows other row (sym (changed.others other differs) ∙ there)
