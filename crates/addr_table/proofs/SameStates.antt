-- The derived test whether two states are one.
use Rattle.std.proofs.Common.{◌≡◌, ℕ, ◌≤◌, ◌&&◌, eqb, Bool, true, false, Option, Some, None, refl, sym, ◌∙◌, ap, subst}
use Rattle.std.proofs.lemmas.Bool.{and_parts, and_from, and_right, eqb-true, eq-eqb, false≢true}
use denote.Struct.Props.{props}
use Rattle.savi_kinds.specs.declared.port.Port.{Port}
use Rattle.savi_kinds.specs.Ports.{number_of}
use Rattle.savi_kinds.specs.contracts.port.PortPartialEq.TheImpl as port_eq
use Rattle.std.specs.contracts.prelude.BoolPartialEq.TheImpl as bool_eq
use Rattle.fcfs_states.specs.declared.state.Fcfs.{Fcfs}
use Rattle.fcfs_states.specs.declared.state.Fcfs.TheVariants.{NoBind, Tentative, Valid, TestLt, TestVp}
use Rattle.fcfs_states.specs.contracts.state.FcfsPartialEq.TheImpl as fcfs_eq
use Rattle.dhcp_states.specs.declared.bound.Bound.{Bound}
use Rattle.dhcp_states.specs.contracts.bound.BoundPartialEq.TheImpl as bound_eq
use Rattle.mix_rules.specs.declared.state.AddrState.{AddrState}
use Rattle.mix_rules.specs.contracts.state.AddrStatePartialEq.TheImpl as state_eq

-- ports of one number are one
one_port : (n : ℕ) (l m : 1 ≤ n) (h i : n ≤ 16) → let p : Port = record { number = n; low = l; high = h } in let q : Port = record { number = n; low = m; high = i } in p ≡ q
one_port n l m h i =
    let low : IsProp (1 ≤ n) = hlevel props in
    let high : IsProp (n ≤ 16) = hlevel props in
    (λ j. record { number = n; low = low l m j; high = high h i j })

port_at : (p : Port) (n : ℕ) → number_of p ≡ n → (m : 1 ≤ n) (i : n ≤ 16) → let q : Port = record { number = n; low = m; high = i } in p ≡ q
port_at p n same = subst (λ n. (m : 1 ≤ n) (i : n ≤ 16) → let q : Port = record { number = n; low = m; high = i } in p ≡ q) same (λ m i. one_port p.number p.low m p.high i)

port_is : (p q : Port) → (port_eq.ghosts).eq p q ≡ true → p ≡ q
port_is p q same = port_at p q.number (eqb-true p.number q.number same) q.low q.high

port_self : (p : Port) → (port_eq.ghosts).eq p p ≡ true
port_self p = eq-eqb p.number p.number refl

flag_is : (a b : Bool) → (bool_eq.ghosts).eq a b ≡ true → a ≡ b
flag_is true true same = refl
flag_is false false same = refl
flag_is true false same = absurd (false≢true same)
flag_is false true same = absurd (false≢true same)

flag_self : (a : Bool) → (bool_eq.ghosts).eq a a ≡ true
flag_self true = refl
flag_self false = refl

-- what several equal parts come to
fcfs_is : (x y : Fcfs) → (fcfs_eq.ghosts).eq x y ≡ true → x ≡ y
fcfs_is NoBind NoBind same = refl
fcfs_is (Tentative p since two) (Tentative q from more) same =
    let one : ((port_eq.ghosts).eq p q ≡ true) × ((eqb since from && (bool_eq.ghosts).eq two more) ≡ true) = and_parts _ _ same in
    let rest : (eqb since from ≡ true) × ((bool_eq.ghosts).eq two more ≡ true) = and_parts _ _ one.1 in
    let a : p ≡ q = port_is p q one.0 in
    let b : since ≡ from = eqb-true since from rest.0 in
    let c : two ≡ more = flag_is two more rest.1 in
    cc
fcfs_is (Valid p until) (Valid q end) same =
    let one : ((port_eq.ghosts).eq p q ≡ true) × (eqb until end ≡ true) = and_parts _ _ same in
    let a : p ≡ q = port_is p q one.0 in
    let b : until ≡ end = eqb-true until end one.1 in
    cc
fcfs_is (TestLt p since two) (TestLt q from more) same =
    let one : ((port_eq.ghosts).eq p q ≡ true) × ((eqb since from && (bool_eq.ghosts).eq two more) ≡ true) = and_parts _ _ same in
    let rest : (eqb since from ≡ true) × ((bool_eq.ghosts).eq two more ≡ true) = and_parts _ _ one.1 in
    let a : p ≡ q = port_is p q one.0 in
    let b : since ≡ from = eqb-true since from rest.0 in
    let c : two ≡ more = flag_is two more rest.1 in
    cc
fcfs_is (TestVp p r since two) (TestVp q s from more) same =
    let one : ((port_eq.ghosts).eq p q ≡ true) × (((port_eq.ghosts).eq r s && (eqb since from && (bool_eq.ghosts).eq two more)) ≡ true) = and_parts _ _ same in
    let next : ((port_eq.ghosts).eq r s ≡ true) × ((eqb since from && (bool_eq.ghosts).eq two more) ≡ true) = and_parts _ _ one.1 in
    let rest : (eqb since from ≡ true) × ((bool_eq.ghosts).eq two more ≡ true) = and_parts _ _ next.1 in
    let a : p ≡ q = port_is p q one.0 in
    let d : r ≡ s = port_is r s next.0 in
    let b : since ≡ from = eqb-true since from rest.0 in
    let c : two ≡ more = flag_is two more rest.1 in
    cc
fcfs_is _ _ same = absurd (false≢true same)

fcfs_self : (x : Fcfs) → (fcfs_eq.ghosts).eq x x ≡ true
fcfs_self NoBind = refl
fcfs_self (Tentative p since two) = and_from _ _ (port_self p) (and_from _ _ (eq-eqb since since refl) (flag_self two))
fcfs_self (Valid p until) = and_from _ _ (port_self p) (eq-eqb until until refl)
fcfs_self (TestLt p since two) = and_from _ _ (port_self p) (and_from _ _ (eq-eqb since since refl) (flag_self two))
fcfs_self (TestVp p q since two) = and_from _ _ (port_self p) (and_from _ _ (port_self q) (and_from _ _ (eq-eqb since since refl) (flag_self two)))

-- a binding by DHCP: the port, and the moment at which it ends, where it does
end_is : (p q : Port) (u v : Option ℕ) → let x : Bound = record { p = p; until = u } in let y : Bound = record { p = q; until = v } in (bound_eq.ghosts).eq x y ≡ true → x ≡ y
end_is p q None None same = let a : p ≡ q = port_is p q (and_parts _ _ same).0 in cc
end_is p q (Some u) (Some v) same =
    let one : ((port_eq.ghosts).eq p q ≡ true) × (eqb u v ≡ true) = and_parts _ _ same in
    let a : p ≡ q = port_is p q one.0 in
    let b : u ≡ v = eqb-true u v one.1 in
    cc
end_is p q None (Some v) same = absurd (false≢true (sym (and_right ((port_eq.ghosts).eq p q) false refl) ∙ same))
end_is p q (Some u) None same = absurd (false≢true (sym (and_right ((port_eq.ghosts).eq p q) false refl) ∙ same))

end_self : (p : Port) (u : Option ℕ) → let x : Bound = record { p = p; until = u } in (bound_eq.ghosts).eq x x ≡ true
end_self p None = and_from _ _ (port_self p) refl
end_self p (Some u) = and_from _ _ (port_self p) (eq-eqb u u refl)

fixed_is : (x y : Option Port) (f g : Fcfs) (u v : Option Bound) → let a : AddrState = record { fixed = x; fcfs = f; dhcp = u } in let b : AddrState = record { fixed = y; fcfs = g; dhcp = v } in (state_eq.ghosts).eq a b ≡ true → x ≡ y
fixed_is None None f g u v same = refl
fixed_is (Some p) (Some q) f g u v same = ap Some (port_is p q (and_parts _ _ same).0)
fixed_is None (Some q) f g u v same = absurd (false≢true same)
fixed_is (Some p) None f g u v same = absurd (false≢true same)

dhcp_is : (x y : Option Bound) (f g : Fcfs) → let a : AddrState = record { fixed = None; fcfs = f; dhcp = x } in let b : AddrState = record { fixed = None; fcfs = g; dhcp = y } in (state_eq.ghosts).eq a b ≡ true → (f ≡ g) × (x ≡ y)
dhcp_is None None f g same = (fcfs_is f g (and_parts _ _ same).0, refl)
dhcp_is (Some a) (Some b) f g same = (fcfs_is f g (and_parts _ _ same).0, ap Some (end_is a.p b.p a.until b.until (and_parts _ _ same).1))
dhcp_is None (Some b) f g same = absurd (false≢true (and_parts _ _ same).1)
dhcp_is (Some a) None f g same = absurd (false≢true (and_parts _ _ same).1)

rest_is : (x y : Option Port) (f g : Fcfs) (u v : Option Bound) → let a : AddrState = record { fixed = x; fcfs = f; dhcp = u } in let b : AddrState = record { fixed = y; fcfs = g; dhcp = v } in (state_eq.ghosts).eq a b ≡ true → (f ≡ g) × (u ≡ v)
rest_is None None f g u v same = dhcp_is u v f g same
rest_is (Some p) (Some q) f g u v same = dhcp_is u v f g (and_parts _ _ same).1
rest_is None (Some q) f g u v same = absurd (false≢true same)
rest_is (Some p) None f g u v same = absurd (false≢true same)

pub state_is : (a b : AddrState) → (state_eq.ghosts).eq a b ≡ true → a ≡ b
state_is a b same =
    let one : a.fixed ≡ b.fixed = fixed_is a.fixed b.fixed a.fcfs b.fcfs a.dhcp b.dhcp same in
    let rest : (a.fcfs ≡ b.fcfs) × (a.dhcp ≡ b.dhcp) = rest_is a.fixed b.fixed a.fcfs b.fcfs a.dhcp b.dhcp same in
    λ i. record { fixed = one i; fcfs = rest.0 i; dhcp = rest.1 i }

bound_self : (f : Fcfs) (u : Option Bound) → let a : AddrState = record { fixed = None; fcfs = f; dhcp = u } in (state_eq.ghosts).eq a a ≡ true
bound_self f None = and_from _ _ (fcfs_self f) refl
bound_self f (Some b) = and_from _ _ (fcfs_self f) (end_self b.p b.until)

parts_self : (x : Option Port) (f : Fcfs) (u : Option Bound) → let a : AddrState = record { fixed = x; fcfs = f; dhcp = u } in (state_eq.ghosts).eq a a ≡ true
parts_self None f u = bound_self f u
parts_self (Some p) f u = and_from _ _ (port_self p) (bound_self f u)

pub state_self : (a b : AddrState) → a ≡ b → (state_eq.ghosts).eq a b ≡ true
state_self a b same = subst (λ (x : AddrState). (state_eq.ghosts).eq a x ≡ true) same (parts_self a.fixed a.fcfs a.dhcp)
