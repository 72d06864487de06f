-- No two plans have the same code: each part can be read off the front.
use Rattle.std.proofs.Common.{◌≡◌, ℕ, ◌==◌, if◌then◌else◌, true, false, List, [], ◌∷◌, ◌++◌, length, Some, None, refl, ap, sym, ◌∙◌, append_assoc, arith}
use Rattle.savi_kinds.specs.declared.plan.Role.{Role}
use Rattle.savi_kinds.specs.declared.plan.Role.TheVariants.{Host, Server, Trusted}
use Rattle.savi_kinds.specs.declared.plan.Method.{Method}
use Rattle.savi_kinds.specs.declared.plan.Method.TheVariants.{Fcfs, Dhcp, Mixed}
use Rattle.savi_kinds.specs.declared.plan.Format.{Format}
use Rattle.savi_kinds.specs.declared.plan.Format.TheVariants.{Pcap, Stream}
use Rattle.savi_kinds.specs.declared.plan.Vlan.{Vlan}
use Rattle.savi_kinds.specs.declared.plan.Vlan.TheVariants.{Access, Trunk}
use Rattle.savi_kinds.specs.declared.plan.Plan.{Plan}
use Rattle.savi_kinds.specs.Ports.{number_of}
use Rattle.core_keep.specs.PortNumbers.{port_at}
use Rattle.core_keep.specs.PlanCodes.{bit_code, text_code, each_code, list_code, role_number, method_number, format_number, vlan_code, port_code, prefix_code, names_code, plan_code}
use Rattle.core_keep.proofs.RowsRead.{port_again}

-- what is coded can be read off the front: the value, and what follows
abbrev pub IsCode : {X : Type 0} → (X → List ℕ) → Type 0
IsCode {X} code = (a b : X) (r s : List ℕ) → code a ++ r ≡ code b ++ s → (a ≡ b) × (r ≡ s)

pub heads : {x y : ℕ} {r s : List ℕ} → x ∷ r ≡ y ∷ s → (x ≡ y) × (r ≡ s)
heads e = (cc, cc)

pub apart : {r s : List ℕ} → 0 ∷ r ≡ 1 ∷ s → ⊥
apart e = let h : ◌≡◌ {A = ℕ} 1 0 = sym (heads e).0 in omega arith

pub bit_read : IsCode bit_code
bit_read false false r s e = (refl, (heads e).1)
bit_read true true r s e = (refl, (heads e).1)
bit_read false true r s e = absurd (apart e)
bit_read true false r s e = absurd (apart (sym e))

pub same_fronts : (a b r s : List ℕ) → length a ≡ length b → a ++ r ≡ b ++ s → (a ≡ b) × (r ≡ s)
same_fronts [] [] r s l e = (refl, e)
same_fronts [] (y ∷ b) r s l e = absurd (omega arith)
same_fronts (x ∷ a) [] r s l e = absurd (omega arith)
same_fronts (x ∷ a) (y ∷ b) r s l e =
    let h = heads e in let n : length a ≡ length b = omega arith in let t = same_fronts a b r s n h.1 in
    (ap (λ (z : ℕ). z ∷ a) h.0 ∙ ap (λ (zs : List ℕ). y ∷ zs) t.0, t.1)

pub text_read : IsCode text_code
text_read a b r s e = let h = heads e in same_fronts a b r s h.0 h.1

each_read : {X : Type 0} (code : X → List ℕ) → IsCode code → (a b : List X) (r s : List ℕ) → length a ≡ length b → each_code code a ++ r ≡ each_code code b ++ s → (a ≡ b) × (r ≡ s)
each_read code is [] [] r s l e = (refl, e)
each_read code is [] (y ∷ b) r s l e = absurd (omega arith)
each_read code is (x ∷ a) [] r s l e = absurd (omega arith)
each_read {X} code is (x ∷ a) (y ∷ b) r s l e =
    let h = is x y (each_code code a ++ r) (each_code code b ++ s) (sym (append_assoc (code x) (each_code code a) r) ∙ e ∙ append_assoc (code y) (each_code code b) s) in
    let n : length a ≡ length b = omega arith in
    let t = each_read code is a b r s n h.1 in
    (ap (λ (z : X). z ∷ a) h.0 ∙ ap (λ (zs : List X). y ∷ zs) t.0, t.1)

pub list_read : {X : Type 0} (code : X → List ℕ) → IsCode code → IsCode (list_code code)
list_read code is a b r s e = let h = heads e in each_read code is a b r s h.0 h.1

role_at : ℕ → Role
role_at n = if n == 0 then Host else if n == 1 then Server else Trusted

role_again : (role : Role) → role_at (role_number role) ≡ role
unfolding role_at
role_again Host = refl
role_again Server = refl
role_again Trusted = refl

method_at : ℕ → Method
method_at n = if n == 0 then Fcfs else if n == 1 then Dhcp else Mixed

method_again : (method : Method) → method_at (method_number method) ≡ method
unfolding method_at
method_again Fcfs = refl
method_again Dhcp = refl
method_again Mixed = refl

format_at : ℕ → Format
format_at n = if n == 0 then Pcap else Stream

format_again : (format : Format) → format_at (format_number format) ≡ format
unfolding format_at
format_again Pcap = refl
format_again Stream = refl

-- where a value is read again of its number, no two have the same
pub one_by : {X : Type 0} (number : X → ℕ) (at : ℕ → X) → ((x : X) → at (number x) ≡ x) → (a b : X) → number a ≡ number b → a ≡ b
one_by number at again a b e = sym (again a) ∙ ap at e ∙ again b

-- two things, one behind the other
pub both_read : {X Y : Type 0} (first : X → List ℕ) (second : Y → List ℕ) → IsCode first → IsCode second → (a b : X) (c d : Y) (r s : List ℕ)
    → (first a ++ second c) ++ r ≡ (first b ++ second d) ++ s → (a ≡ b) × (c ≡ d) × (r ≡ s)
both_read first second one two a b c d r s e =
    let h = one a b (second c ++ r) (second d ++ s) (sym (append_assoc (first a) (second c) r) ∙ e ∙ append_assoc (first b) (second d) s) in
    let t = two c d r s h.1 in
    (h.0, t.0, t.1)

vlan_read : IsCode vlan_code
vlan_read (Access v) (Access w) r s e = let h = heads (heads e).1 in (λ i. Access (h.0 i), h.1)
vlan_read (Access v) (Trunk ws) r s e = absurd (apart e)
vlan_read (Trunk vs) (Access w) r s e = absurd (apart (sym e))
vlan_read (Trunk vs) (Trunk ws) r s e =
    let t = text_read vs.items ws.items r s (heads e).1 in
    (λ i. Trunk (record { items = t.0 i }), t.1)

-- the names of a port, and behind them its VLANs
names_and_vlan : (a b c d : List ℕ) (v w : Vlan) (r s : List ℕ) → (text_code a ++ (text_code c ++ vlan_code v)) ++ r ≡ (text_code b ++ (text_code d ++ vlan_code w)) ++ s
    → (a ≡ b) × (c ≡ d) × (v ≡ w) × (r ≡ s)
names_and_vlan a b c d v w r s e =
    let h =
    text_read a b ((text_code c ++ vlan_code v) ++ r) ((text_code d ++ vlan_code w) ++ s)
    (sym (append_assoc (text_code a) (text_code c ++ vlan_code v) r) ∙ e ∙ append_assoc (text_code b) (text_code d ++ vlan_code w) s) in
    let t = both_read text_code vlan_code text_read vlan_read c d v w r s h.1 in
    (h.0, t.0, t.1, t.2)

port_read : IsCode port_code
port_read a b r s e =
    let n = heads e in let k = heads n.1 in let f = heads k.1 in
    let number = one_by number_of port_at port_again a.number b.number n.0 in
    let role = one_by role_number role_at role_again a.role b.role k.0 in
    let format = one_by format_number format_at format_again a.format b.format f.0 in
    let t = names_and_vlan a.input b.input a.output b.output a.vlan b.vlan r s f.1 in
    (λ i. record { number = number i; role = role i; format = format i; input = t.0 i; output = t.1 i; vlan = t.2 i }, t.3)

prefix_read : IsCode prefix_code
prefix_read a b r s e =
    let n = heads e in let l = heads n.1 in let m = heads l.1 in let v = heads m.1 in
    let method = one_by method_number method_at method_again a.method b.method m.0 in
    (λ i. record { prefix = record { net = record { 0 = n.0 i }; len = l.0 i }; method = method i; vlan = v.0 i }, v.1)

names_read : IsCode names_code
names_read None None r s e = (refl, (heads e).1)
names_read None (Some b) r s e = absurd (apart e)
names_read (Some a) None r s e = absurd (apart (sym e))
names_read (Some a) (Some b) r s e =
    let t = both_read text_code text_code text_read text_read a.0 b.0 a.1 b.1 r s (heads e).1 in
    (λ i. Some (t.0 i, t.1 i), t.2)

pub one_plan : (a b : Plan) → plan_code a ≡ plan_code b → a ≡ b
one_plan a b e =
    let per_port = heads e in let depth = heads per_port.1 in let entries = heads depth.1 in let bytes = heads entries.1 in
    let gap = heads bytes.1 in let test = heads gap.1 in let life = heads test.1 in
    let savi = bit_read a.savi b.savi _ _ life.1 in
    let unknown = bit_read a.drop_unknown b.drop_unknown _ _ savi.1 in
    let mac = text_read a.mac.0 b.mac.0 _ _ unknown.1 in
    let control = names_read a.control b.control _ _ mac.1 in
    let journal = text_read a.journal b.journal _ _ control.1 in
    let ports = list_read port_code port_read a.ports b.ports _ _ journal.1 in
    let prefixes = list_read prefix_code prefix_read a.prefixes b.prefixes [] [] (ap (λ (xs : List ℕ). xs ++ []) ports.1) in
    λ i. record {
      mac = record { 0 = mac.0 i };
      savi = savi.0 i;
      drop_unknown = unknown.0 i;
      per_port = per_port.0 i;
      depth = depth.0 i;
      entries = entries.0 i;
      bytes = bytes.0 i;
      gap = gap.0 i;
      test = test.0 i;
      life = life.0 i;
      control = control.0 i;
      journal = journal.0 i;
      ports = ports.0 i;
      prefixes = prefixes.0 i;
    }
