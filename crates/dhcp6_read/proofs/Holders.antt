-- What an option says in which others lie, by what these say.
use Rattle.std.proofs.Common.{◌≡◌, Bool, false, cond, Ok, Err, List, [], ◌++◌, refl, sym, ap, ◌∙◌, subst}
use Rattle.dhcp6_read.specs.declared.message.Lease.{Lease}
use Rattle.dhcp6_read.specs.declared.message.DhcpFault.{DhcpFault}
use Rattle.dhcp6_read.specs.Levels.{Said, around}
use Rattle.dhcp6_read.specs.Steps.{TellsLeases}

-- one of those within it is at fault
pub holder_fault : (short : Bool) (bad inner : Said) (leases : List Lease) (fault : DhcpFault) (before after first last : List Lease)
    → short ≡ false → TellsLeases inner (Err fault) before after → TellsLeases (cond short bad (around inner leases)) (Err fault) first last
holder_fault short bad inner leases fault before after first last long told =
    let P : Bool → Type 0 = λ b. TellsLeases (cond b bad (around inner leases)) (Err fault) first last in
    subst P (sym long) told

-- none of them voids its addresses
pub holder_stands : (short : Bool) (bad inner : Said) (leases before after : List Lease)
    → short ≡ false → inner.faults ≡ [] → inner.void ≡ false → after ≡ before ++ leases → TellsLeases (cond short bad (around inner leases)) (Ok false) before after
holder_stands short bad inner leases before after long fine stands e =
    let P : Bool → Type 0 = λ b. TellsLeases (cond b bad (around inner leases)) (Ok false) before after in
    let none : List Lease = [] in
    subst P (sym long) (fine, refl, e ∙ ap (λ (b : Bool). before ++ cond b none leases) (sym stands))
