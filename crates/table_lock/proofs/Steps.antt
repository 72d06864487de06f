-- Each step of one pass keeps the rule: draw, look, made and pass on.
use Rattle.std.proofs.Common.{◌≡◌, ◌≢◌, ℕ, ◌+◌, ◌%◌, ◌^◌, ◌<◌, ◌≤◌, inl, inr, eqb, eq-eqb, ne_eqb, cond, List, [], ◌∷◌, ◌++◌, length, get_or, set, sym, refl, ap, ◌∙◌, subst, arith, mod-eq_of_lt, length-set, length-append, Option, Some, unwrap_or}
use mathlib.Core.Logic.{dite}
use mathlib.Core.Option.{none, some, some-injective, some-ne-none}
use mathlib.Core.Option as maybe
use native.Mathlib.Decide.{ℕ_discrete, dec_le}
use lib.ListN.{get_elem?}
use lib.Seq.{set-get_or}
use Rattle.atomic_table.specs.Table.{State, Step, step, Act, keeps, takes, gives, Allows, Valid, stepped, carried_after}
use Rattle.atomic_table.proofs.Lists.{set_here, set_else, set_again}
use Rattle.table_lock.specs.declared.board.Stage.{Stage}
use Rattle.table_lock.specs.declared.board.Stage.TheVariants.{Spent, Idle, Waiting, Out}
use Rattle.table_lock.specs.declared.board.View.{View}
use Rattle.table_lock.specs.Entries.{Entry, EntryList, mine}
use Rattle.table_lock.specs.Rule.{Has, InRange, IsTicket, tickets, waiting, FitsView, HasValueInPlace, Keeps}
use Rattle.table_lock.specs.Plays.{ticket_of, at_stage, noted, drawn, looked, made, passed}
use Rattle.table_lock.proofs.Lists.{all_set, at_below, total_set, total_le, starts_whole, starts_longer, starts_same}
use Rattle.table_lock.proofs.Maps.{mine_more, mine_same, has_added, added_has, length-added}

tickets_le : (v : View) → tickets v.stage ≤ 1
tickets_le v = elim (v.stage) as (λ st. tickets st ≤ 1) [ Spent ↦ omega arith | Idle ↦ omega arith | Waiting t ↦ omega arith | Out t ↦ omega arith ]

pub waiting_le : (views : List View) → waiting views ≤ length views
waiting_le views = total_le (λ (v : View). tickets v.stage) tickets_le views

-- the ticket of a stage lies in the range, and is that of no other
wider : (serving ticket : ℕ) (st : Stage) → InRange serving ticket st → InRange serving (ticket + 1) st
wider serving ticket Spent h = tt
wider serving ticket Idle h = tt
wider serving ticket (Waiting t) h = let b = h.1 in (h.0, omega arith)
wider serving ticket (Out t) h = let b = h.1 in (h.0, omega arith, h.2)

below : (serving ticket t : ℕ) (st : Stage) → InRange serving ticket st → IsTicket st t → t < ticket
below serving ticket t Spent h is = absurd is
below serving ticket t Idle h is = absurd is
below serving ticket t (Waiting x) h is = let b = h.1 in omega arith
below serving ticket t (Out x) h is = let b = h.1 in omega arith

-- after the served ticket is passed on
served_next : (serving ticket : ℕ) (st : Stage) → (IsTicket st serving → ⊥) → InRange serving ticket st → InRange (serving + 1) ticket st
served_next serving ticket Spent other h = tt
served_next serving ticket Idle other h = tt
served_next serving ticket (Waiting t) other h = let a = h.0 in (dite (ℕ_discrete t serving) (λ e. absurd (other e)) (λ n. omega arith), h.1)
served_next serving ticket (Out t) other h = absurd (other h.0)

pub stage_range : (serving ticket : ℕ) (st st' : Stage) → st ≡ st' → InRange serving ticket st → InRange serving ticket st'
stage_range serving ticket st st' e h = subst (InRange serving ticket) e h

pub stage_ticket : (st st' : Stage) (t : ℕ) → st ≡ st' → IsTicket st' t → IsTicket st t
stage_ticket st st' t e h = subst (λ (x : Stage). IsTicket x t) (sym e) h

module _ (F : List ℕ) (H : EntryList) (n : ℕ) (owner : ℕ → ℕ) where
  -- another stage, between steps
  pub refits : (j : ℕ) (v : View) (st : Stage) → v.stage ≢ Spent → st ≢ Spent → FitsView F H n owner j v → FitsView F H n owner j (at_stage v st)
  refits j v st from to f = record {
    seen = f.seen;
    fixed = λ _. f.fixed from;
    keys = f.keys;
    own = λ _. f.own from;
    count = f.count;
    told = f.told;
    spent = λ e. absurd (to e);
  }

  -- an entry of another pass
  fits_more : (j : ℕ) (v : View) (e : Entry) → ((i : ℕ) (es : EntryList) → Has v.mine i es → e.0 ≢ i) → FitsView F H n owner j v → FitsView F (H ++ e ∷ []) n owner j v
  fits_more j v e other f = record {
    seen = starts_longer H (e ∷ []) v.seen f.seen;
    fixed = f.fixed;
    keys = λ i es h. let k = f.keys i es h in (k.0, k.1, k.2 ∙ sym (mine_same i H e (other i es h)));
    own = f.own;
    count = f.count;
    told = λ k xs h. starts_longer H (e ∷ []) xs (f.told k xs h);
    spent = f.spent;
  }

  -- an entry of the pass itself, which had seen all
  added_is : (i : ℕ) (e : Entry) (old es : EntryList) → old ≡ mine i H → es ≡ cond (eqb i e.0) (old ++ e ∷ []) old → es ≡ mine i (H ++ e ∷ [])
  added_is i e old es was is = dite (ℕ_discrete i e.0)
      (λ here. is ∙ (ap (λ b. cond b (old ++ e ∷ []) old) (eq-eqb i e.0 here) ∙ (ap (λ (x : EntryList). x ++ e ∷ []) was ∙ sym (mine_more i H e (sym here)))))
      (λ other. is ∙ (ap (λ b. cond b (old ++ e ∷ []) old) (ne_eqb i e.0 other) ∙ (was ∙ sym (mine_same i H e (λ z. other (sym z))))))

  fits_noted : (j : ℕ) (v : View) (e : Entry) → v.stage ≢ Spent → v.seen ≡ H → FitsView F H n owner j v → FitsView F (H ++ e ∷ []) n owner j (noted v e)
  fits_noted j v e alive all f = record {
    seen = starts_same (H ++ e ∷ []) (H ++ e ∷ []) (v.seen ++ e ∷ []) (ap (λ (x : EntryList). x ++ e ∷ []) (sym all)) (starts_whole (H ++ e ∷ []));
    fixed = f.fixed;
    keys = λ i es h. let t = added_has e v.mine i es h in let k = f.keys i t.0 t.1 in (k.0, k.1, added_is i e t.0 es k.2 t.2);
    own = λ z. let o = f.own z in (o.0, cond (eqb o.0 e.0) (o.1 ++ e ∷ []) o.1, o.2, has_added e v.mine o.0 o.1 o.3);
    count = f.count;
    told = λ k xs h. starts_longer H (e ∷ []) xs (f.told k xs h);
    spent = λ z. absurd (alive z);
  }

module _ {V : Type 0} (history : V → EntryList) (fixed : V → List ℕ) (F : List ℕ) (N : ℕ) where
  abbrev St : Type 0
  St = State (Option V) View

  abbrev Homes : Type 0
  Homes = List (maybe.Option (Option V))

  abbrev K : St → Type 0
  K = Keeps history fixed F N

  abbrev Placed : EntryList → Homes → List View → Type 0
  Placed = HasValueInPlace history fixed F N

  abbrev pub blank : Step (Option V)
  blank = step 0 0 0 0 none

  -- one view changes, and what the step owes of it and of the others
  changes : (s : St) (r : K s) (id : ℕ) (v w : View) (words' : List ℕ) (homes' : Homes) (H' : EntryList) (ticket' serving' : ℕ)
      → get_elem? s.views id ≡ some v
      → words' ≡ ticket' ∷ serving' ∷ length H' ∷ []
      → serving' ≤ 2 ^ 63
      → waiting s.views + tickets w.stage + serving' ≡ ticket' + tickets v.stage
      → length w.mine ≡ length v.mine
      → w.seats ≡ v.seats
      → InRange serving' ticket' w.stage
      → ((j : ℕ) (u : View) → j ≢ id → get_elem? s.views j ≡ some u → InRange serving' ticket' u.stage)
      → ((k : ℕ) (u : View) → k ≢ id → get_elem? s.views k ≡ some u → (t : ℕ) → IsTicket w.stage t → IsTicket u.stage t → ⊥)
      → FitsView F H' r.n r.owner id w
      → ((j : ℕ) (u : View) → j ≢ id → get_elem? s.views j ≡ some u → FitsView F H' r.n r.owner j u)
      → ((i : ℕ) (es : EntryList) → Has v.mine i es → (es' : EntryList) × Has w.mine i es')
      → ((i : ℕ) → r.n ≤ i → mine i H' ≡ [])
      → Placed H' homes' (set s.views id w)
      → K record { words = words'; homes = homes'; views = set s.views id w }
  changes s r id v w words' homes' H' ticket' serving' at words served counts sizes seats range ranges fresh fits each has none_else placed = record {
    H = H';
    n = r.n;
    owner = r.owner;
    ticket = ticket';
    serving = serving';
    words = words;
    served = served;
    few = r.few;
    most = r.most;
    all = length-set s.views id w ∙ r.all;
    has_count = count_after r.has_count;
    counted = let t = total_set (λ (u : View). tickets u.stage) s.views id v w at in omega arith;
    shared = let t = total_set (λ (u : View). length u.mine) s.views id v w at in let q = r.shared in omega arith;
    ranges = all_set (λ j u. InRange serving' ticket' u.stage) s.views id w range ranges;
    apart = all_set (λ j u. (k : ℕ) (x : View) → get_elem? (set s.views id w) k ≡ some x → (t : ℕ) → IsTicket u.stage t → IsTicket x.stage t → j ≡ k) s.views id w
        (all_set (λ k x. (t : ℕ) → IsTicket w.stage t → IsTicket x.stage t → id ≡ k) s.views id w (λ t a b. refl) (λ k x other atk t a b. absurd (fresh k x other atk t a b)))
        (λ j u other atj. all_set (λ k x. (t : ℕ) → IsTicket u.stage t → IsTicket x.stage t → j ≡ k) s.views id w (λ t a b. absurd (fresh j u other atj t b a)) (λ k x _ atk. r.apart j u atj k x atk));
    each = all_set (λ j u. FitsView F H' r.n r.owner j u) s.views id w fits each;
    keyed = λ i l. keyed_after i (r.keyed i l);
    others = none_else;
    placed = placed;
  }
    where
      count_after : (u : View) × (get_elem? s.views (r.owner 0) ≡ some u) × (u.seats ≡ r.n) → (u : View) × (get_elem? (set s.views id w) (r.owner 0) ≡ some u) × (u.seats ≡ r.n)
      count_after k = dite (ℕ_discrete (r.owner 0) id)
          (λ same.
          let is : k.0 ≡ v = some-injective k.0 v (sym k.1 ∙ (ap (λ (x : ℕ). get_elem? s.views x) same ∙ at)) in
          (w, ap (λ (x : ℕ). get_elem? (set s.views id w) x) same ∙ set_here s.views id w (at_below s.views id v at), seats ∙ (sym (ap (λ (x : View). x.seats) is) ∙ k.2)))
          (λ other. (k.0, set_else s.views id (r.owner 0) w other ∙ k.1, k.2))

      keyed_after : (i : ℕ) → (u : View) × (es : EntryList) × (get_elem? s.views (r.owner i) ≡ some u) × Has u.mine i es
          → (u : View) × (es : EntryList) × (get_elem? (set s.views id w) (r.owner i) ≡ some u) × Has u.mine i es
      keyed_after i k = dite (ℕ_discrete (r.owner i) id)
          (λ same.
          let here : get_elem? s.views (r.owner i) ≡ some v = ap (λ (x : ℕ). get_elem? s.views x) same ∙ at in
          let is : k.0 ≡ v = some-injective k.0 v (sym k.2 ∙ here) in
          let h = has i k.1 (subst (λ (x : View). Has x.mine i k.1) is k.3) in
          (w, h.0, ap (λ (x : ℕ). get_elem? (set s.views id w) x) same ∙ set_here s.views id w (at_below s.views id v at), h.1))
          (λ other. (k.0, k.1, set_else s.views id (r.owner i) w other ∙ k.2, k.3))

  -- the value stays where it is, where a pass that isn't out changes to another such stage
  stays : (s : St) (H : EntryList) (id : ℕ) (v w : View) → ((t : ℕ) → v.stage ≢ Out t) → ((t : ℕ) → w.stage ≢ Out t) → get_elem? s.views id ≡ some v
      → Placed H s.homes s.views → Placed H s.homes (set s.views id w)
  stays s H id v w from to at (inl p) = inl (p.0, p.1, p.2, p.3, all_set (λ j u. (t : ℕ) → u.stage ≢ Out t) s.views id w to (λ j u _ atj. p.4 j u atj))
  stays s H id v w from to at (inr p) =
      let away : p.1.0 ≢ id = λ e. from p.1.2 (ap (λ (u : View). u.stage) (some-injective v p.1.1 (sym at ∙ (ap (λ (x : ℕ). get_elem? s.views x) (sym e) ∙ p.1.3))) ∙ p.1.4) in
      inr (p.0, (p.1.0, p.1.1, p.1.2, set_else s.views id p.1.0 w away ∙ p.1.3, p.1.4, p.1.5))

  not_out : (st : Stage) → tickets st ≡ 0 → (t : ℕ) → st ≢ Out t
  not_out st none_left t e = let k = ap tickets e in omega arith

  pub draws : (slots id : ℕ) (v : View) (c : List (ℕ × Option V)) → v.stage ≡ Idle → Allows K slots id (v, c) 0 (λ n. (n + 1) % 2 ^ 64) (drawn blank (v, c))
  draws slots id v c is s r one at small =
      let found : get_or s.words 0 0 ≡ r.ticket = ap (λ (ws : List ℕ). get_or ws 0 0) r.words in
      let w : View = at_stage v (Waiting (get_or s.words 0 0)) in
      let few = r.few in let limit = r.most in let all = r.all in let counted = r.counted in let served = r.served in
      let most = waiting_le s.views in
      let fresh : (get_or s.words 0 0 + 1) % 2 ^ 64 ≡ r.ticket + 1 = mod-eq_of_lt (omega arith) ∙ ap (λ (z : ℕ). z + 1) found in (
        w,
        keeps,
        tt,
        changes s r id v w (set s.words 0 ((get_or s.words 0 0 + 1) % 2 ^ 64)) s.homes r.H (r.ticket + 1) r.serving at
            (ap (λ (ws : List ℕ). set ws 0 ((get_or s.words 0 0 + 1) % 2 ^ 64)) r.words ∙ ap (λ (z : ℕ). z ∷ r.serving ∷ length r.H ∷ []) fresh)
            r.served
            (let e = ap tickets is in omega arith)
            refl
            refl
            (omega arith, omega arith)
            (λ j u other atj. wider r.serving r.ticket u.stage (r.ranges j u atj))
            (λ k u other atk t ta tb. let b = below r.serving r.ticket t u.stage (r.ranges k u atk) tb in let e : get_or s.words 0 0 ≡ t = ta in omega arith)
            (refits F r.H r.n r.owner id v (Waiting (get_or s.words 0 0)) (λ z. let k : Idle ≡ Spent = sym is ∙ z in cc) (λ z. cc) (r.each id v at))
            (λ j u other atj. r.each j u atj)
            (λ i es h. (es, h))
            r.others
            (stays s r.H id v w (not_out v.stage (ap tickets is)) (λ t z. cc) at r.placed),
        refl,
      )

  -- a view that is at one place is at no other
  same_view : (s : St) (r : K s) (id : ℕ) (v : View) (j : ℕ) (u : View) (t : ℕ) → get_elem? s.views id ≡ some v → get_elem? s.views j ≡ some u → IsTicket v.stage t → IsTicket u.stage t → (j ≡ id) × (u ≡ v)
  same_view s r id v j u t at atj a b =
      let e : j ≡ id = sym (r.apart id v at j u atj t a b) in
      (e, some-injective u v (sym atj ∙ (ap (λ (x : ℕ). get_elem? s.views x) e ∙ at)))

  -- the pass whose ticket is served, and which waits, finds the value in the slot
  calls : (s : St) (r : K s) (id : ℕ) (v : View) (t : ℕ) → get_elem? s.views id ≡ some v → v.stage ≡ Waiting t → r.serving ≡ t
      → (x : V) × (s.homes ≡ some (Some x) ∷ []) × (history x ≡ r.H) × (fixed x ≡ F)
  calls s r id v t at is serves = go r.placed
    where
      go : Placed r.H s.homes s.views → (x : V) × (s.homes ≡ some (Some x) ∷ []) × (history x ≡ r.H) × (fixed x ≡ F)
      go (inl p) = (p.0, p.1, p.2, p.3)
      go (inr p) =
          let u = p.1.1 in
          let served : p.1.2 ≡ r.serving = (stage_range r.serving r.ticket u.stage (Out p.1.2) p.1.4 (r.ranges p.1.0 u p.1.3)).0 in
          let same = same_view s r id v p.1.0 u t at p.1.3 (stage_ticket v.stage (Waiting t) t is refl) (stage_ticket u.stage (Out p.1.2) t p.1.4 (served ∙ serves)) in
          let clash : Waiting t ≡ Out p.1.2 = sym is ∙ (ap (λ (x : View). x.stage) (sym same.1) ∙ p.1.4) in
          cc

  -- the pass that is out has seen the whole history, and the slot is empty
  gone : (s : St) (r : K s) (id : ℕ) (v : View) (t : ℕ) → get_elem? s.views id ≡ some v → v.stage ≡ Out t → (s.homes ≡ none ∷ []) × (v.seen ≡ r.H) × (t ≡ r.serving) × (t < 2 ^ 63)
  gone s r id v t at is = go r.placed
    where
      mine_served : (t ≡ r.serving) × (t < r.ticket) × (t < 2 ^ 63)
      mine_served = stage_range r.serving r.ticket v.stage (Out t) is (r.ranges id v at)

      go : Placed r.H s.homes s.views → (s.homes ≡ none ∷ []) × (v.seen ≡ r.H) × (t ≡ r.serving) × (t < 2 ^ 63)
      go (inl p) = absurd (p.4 id v at t is)
      go (inr p) =
          let u = p.1.1 in
          let served : p.1.2 ≡ r.serving = (stage_range r.serving r.ticket u.stage (Out p.1.2) p.1.4 (r.ranges p.1.0 u p.1.3)).0 in
          let same = same_view s r id v p.1.0 u t at p.1.3 (stage_ticket v.stage (Out t) t is refl) (stage_ticket u.stage (Out p.1.2) t p.1.4 (served ∙ sym mine_served.0)) in
          (p.0, ap (λ (x : View). x.seen) (sym same.1) ∙ p.1.5, mine_served.0, mine_served.2)

  waits_alive : (v : View) (t : ℕ) → v.stage ≡ Waiting t → v.stage ≢ Spent
  waits_alive v t is z = let k : Waiting t ≡ Spent = sym is ∙ z in cc

  out_alive : (v : View) (t : ℕ) → v.stage ≡ Out t → v.stage ≢ Spent
  out_alive v t is z = let k : Out t ≡ Spent = sym is ∙ z in cc

  -- nothing changes
  unmoved : (s : St) (r : K s) (i id : ℕ) (v : View) → get_elem? s.views id ≡ some v → K record { words = set s.words i (get_or s.words i 0); homes = s.homes; views = set s.views id v }
  unmoved s r i id v at = subst (λ (x : List ℕ × List View). K record { words = x.0; homes = s.homes; views = x.1 }) (λ k. (sym (set-get_or s.words i 0) k, sym (set_again s.views id v at) k)) r

  pub looks : (slots id : ℕ) (v : View) (t : ℕ) → v.stage ≡ Waiting t → Allows K slots id (v, []) 1 (λ n. n) (looked history fixed blank (v, []))
  looks slots id v t is s r one at small =
      let found : ℕ = get_or s.words 1 0 in
      let ticket_is : ticket_of v.stage ≡ t = ap ticket_of is in
      dite (ℕ_discrete (get_or s.words 1 0) t)
      (λ here. dite (dec_le (2 ^ 63) (get_or s.words 1 0))
      (λ late. (v, keeps, tt, unmoved s r 1 id v at, ((λ _ (h : get_or s.words 1 0 < 2 ^ 63). absurd (omega arith)), (λ n. absurd (n (here ∙ sym ticket_is))), (λ _. refl))))
      (λ early. came slots id v t is s r at here (λ h. early h)))
      (λ other. (v, keeps, tt, unmoved s r 1 id v at, ((λ a _. absurd (other (a ∙ ticket_is))), (λ _. refl), (λ _. refl))))
    where
      came : (slots id : ℕ) (v : View) (t : ℕ) → v.stage ≡ Waiting t → (s : St) (r : K s) → get_elem? s.views id ≡ some v → get_or s.words 1 0 ≡ t → (2 ^ 63 ≤ get_or s.words 1 0 → ⊥)
          → (w : View) × (a : Act (Option V)) × Valid s.homes [] a × K (stepped s 1 (get_or s.words 1 0) id [] w a) × looked history fixed blank (v, []) (get_or s.words 1 0) (w, carried_after [] a)
      came slots id v t is s r at here early =
          let ticket_is : ticket_of v.stage ≡ t = ap ticket_of is in
          let serving : get_or s.words 1 0 ≡ r.serving = ap (λ (ws : List ℕ). get_or ws 1 0) r.words in
          let p = calls s r id v t at is (sym serving ∙ here) in
          let x : V = p.0 in
          let w : View = record v { stage = Out (ticket_of v.stage); seen = history x } in
          let f = r.each id v at in
          let alive = waits_alive v t is in
          let range = stage_range r.serving r.ticket v.stage (Waiting t) is (r.ranges id v at) in
          let due = range.1 in
          let soon : get_or s.words 1 0 < 2 ^ 63 = omega arith in (
            w,
            takes 0 (Some x),
            ap (λ (hs : Homes). get_elem? hs 0) p.1,
            changes s r id v w (set s.words 1 (get_or s.words 1 0)) (set s.homes 0 none) r.H r.ticket r.serving at
                (ap (λ (ws : List ℕ). set ws 1 (get_or ws 1 0)) r.words)
                r.served
                (let e = ap tickets is in let c = r.counted in omega arith)
                refl
                refl
                (ticket_is ∙ (sym here ∙ serving), omega arith, omega arith)
                (λ j u _ atj. r.ranges j u atj)
                (λ k u other atk t' ta tb. other (sym (r.apart id v at k u atk t' (stage_ticket v.stage (Waiting t) t' is (sym ticket_is ∙ ta)) tb)))
                record {
                  seen = starts_same r.H r.H (history x) (sym p.2) (starts_whole r.H);
                  fixed = λ _. f.fixed alive;
                  keys = f.keys;
                  own = λ _. f.own alive;
                  count = f.count;
                  told = f.told;
                  spent = λ z. let k : Out (ticket_of v.stage) ≡ Spent = z in cc;
                }
                (λ j u _ atj. r.each j u atj)
                (λ i es h. (es, h))
                r.others
                (inr (ap (λ (hs : Homes). set hs 0 none) p.1, (id, w, ticket_of v.stage, set_here s.views id w (at_below s.views id v at), refl, p.2))),
            (
              (λ _ _. record {
                value = x;
                view_is = refl;
                slot = refl;
                fixed_is = p.3 ∙ sym (f.fixed alive);
                longer = (f.seen.0, p.2 ∙ f.seen.1);
                own = λ i es h. (f.keys i es h).2 ∙ ap (mine i) (sym p.2);
              }),
              (λ n. absurd (n (here ∙ sym ticket_is))),
              (λ late. absurd (early late)),
            ),
          )

  pub makes : (slots id : ℕ) (v : View) (t : ℕ) (x : V) (e : Entry) → v.stage ≡ Out t → history x ≡ v.seen ++ e ∷ [] → v.number ≡ Some e.0 → length (history x) < 2 ^ 63
      → Allows K slots id (v, (0, Some x) ∷ []) 2 (λ n. (n + 1) % 2 ^ 64) (made history blank (v, (0, Some x) ∷ []))
  makes slots id v t x e is grows by fits s r one at small =
      let g = gone s r id v t at is in
      let f = r.each id v at in
      let alive = out_alive v t is in
      let found : get_or s.words 2 0 ≡ length r.H = ap (λ (ws : List ℕ). get_or ws 2 0) r.words in
      let long : length (history x) ≡ length r.H + 1 = ap length (grows ∙ ap (λ (l : EntryList). l ++ e ∷ []) g.1) ∙ length-append r.H (e ∷ []) in
      let next : length (r.H ++ e ∷ []) ≡ length r.H + 1 = length-append r.H (e ∷ []) in
      let fresh : (get_or s.words 2 0 + 1) % 2 ^ 64 ≡ length (r.H ++ e ∷ []) = mod-eq_of_lt (omega arith) ∙ (ap (λ (z : ℕ). z + 1) found ∙ sym next) in
      let own = f.own alive in
      let key = f.keys own.0 own.1 own.3 in
      let number : e.0 ≡ own.0 = ap (λ (o : Option ℕ). unwrap_or o e.0) (sym by ∙ own.2) in (
        noted v e,
        keeps,
        tt,
        changes s r id v (noted v e) (set s.words 2 ((get_or s.words 2 0 + 1) % 2 ^ 64)) s.homes (r.H ++ e ∷ []) r.ticket r.serving at
            (ap (λ (ws : List ℕ). set ws 2 ((get_or s.words 2 0 + 1) % 2 ^ 64)) r.words ∙ ap (λ (z : ℕ). r.ticket ∷ r.serving ∷ z ∷ []) fresh)
            r.served
            (let c = r.counted in omega arith)
            (length-added e v.mine)
            refl
            (r.ranges id v at)
            (λ j u _ atj. r.ranges j u atj)
            (λ k u other atk t' ta tb. other (sym (r.apart id v at k u atk t' ta tb)))
            (fits_noted F r.H r.n r.owner id v e alive g.1 f)
            (λ j u other atj. let fu = r.each j u atj in fits_more F r.H r.n r.owner j u e
            (λ i es h z. other (sym (fu.keys i es h).1 ∙ (ap r.owner (sym z ∙ number) ∙ key.1))) fu)
            (λ i es h. (cond (eqb i e.0) (es ++ e ∷ []) es, has_added e v.mine i es h))
            (λ i le. mine_same i r.H e (λ z. let b = key.0 in let same : own.0 ≡ i = sym number ∙ z in omega arith) ∙ r.others i le)
            (inr (g.0, (id, noted v e, t, set_here s.views id (noted v e) (at_below s.views id v at), is, ap (λ (l : EntryList). l ++ e ∷ []) g.1))),
        (x, e, refl, grows, by, refl),
      )

  pub passes : (slots id : ℕ) (v : View) (t : ℕ) (x : V) → v.stage ≡ Out t → history x ≡ v.seen → fixed x ≡ v.fixed
      → Allows K slots id (v, (0, Some x) ∷ []) 1 (λ n. (n + 1) % 2 ^ 64) (passed blank (v, (0, Some x) ∷ []))
  passes slots id v t x is all same s r one at small =
      let g = gone s r id v t at is in
      let f = r.each id v at in
      let alive = out_alive v t is in
      let w : View = at_stage v Idle in
      let early = g.3 in let served = g.2 in
      let found : get_or s.words 1 0 ≡ r.serving = ap (λ (ws : List ℕ). get_or ws 1 0) r.words in
      let fresh : (get_or s.words 1 0 + 1) % 2 ^ 64 ≡ r.serving + 1 = mod-eq_of_lt (omega arith) ∙ ap (λ (z : ℕ). z + 1) found in (
        w,
        gives,
        tt,
        changes s r id v w (set s.words 1 ((get_or s.words 1 0 + 1) % 2 ^ 64)) (set s.homes 0 (some (Some x))) r.H r.ticket (r.serving + 1) at
            (ap (λ (ws : List ℕ). set ws 1 ((get_or s.words 1 0 + 1) % 2 ^ 64)) r.words ∙ ap (λ (z : ℕ). r.ticket ∷ z ∷ length r.H ∷ []) fresh)
            (omega arith)
            (let e = ap tickets is in let c = r.counted in omega arith)
            refl
            refl
            tt
            (λ j u other atj. served_next r.serving r.ticket u.stage (λ a. other (sym (r.apart id v at j u atj r.serving (stage_ticket v.stage (Out t) r.serving is served) a))) (r.ranges j u atj))
            (λ k u other atk t' ta tb. ta)
            (refits F r.H r.n r.owner id v Idle alive (λ z. cc) f)
            (λ j u _ atj. r.each j u atj)
            (λ i es h. (es, h))
            r.others
            (inl (
              x,
              ap (λ (hs : Homes). set hs 0 (some (Some x))) g.0,
              all ∙ g.1,
              same ∙ f.fixed alive,
              all_set (λ j u. (t' : ℕ) → u.stage ≢ Out t') s.views id w (λ t' z. cc)
                  (λ j u other atj t' z. other (sym (r.apart id v at j u atj r.serving (stage_ticket v.stage (Out t) r.serving is served)
                  (stage_ticket u.stage (Out t') r.serving z (stage_range r.serving r.ticket u.stage (Out t') z (r.ranges j u atj)).0)))),
            )),
        refl,
      )
