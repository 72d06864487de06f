-- The steps at two views keep the rule, split and join, and so does the opening. At the end a pass that has every number has
-- the value.
use Rattle.std.proofs.Common.{◌≡◌, ◌≢◌, ℕ, zero, suc, ◌+◌, ◌<◌, ◌≤◌, ◌⊎◌, inl, inr, ⊎_elim, eqb, eq-eqb, ne_eqb, cond, List, [], ◌∷◌, ◌++◌, length, set, sym, refl, ap, ◌∙◌, subst, arith, length-set, length-append, Option, Some}
use Rattle.std.proofs.lemmas.List.Sums.{sum_by_push}
use mathlib.Core.Logic.{dite}
use mathlib.Core.Option.{none, some, some-injective, some-ne-none}
use mathlib.Core.Option as maybe
use native.Mathlib.Decide.{ℕ_discrete}
use lib.ListN.{get_elem?}
use Rattle.atomic_table.specs.Table.{State, Splits, Joins, Final, Seen, opening}
use Rattle.atomic_table.proofs.Lists.{set_here, set_else, at_longer, at_last}
use Rattle.table_lock.specs.declared.board.Stage.{Stage}
use Rattle.table_lock.specs.declared.board.Stage.TheVariants.{Spent, Idle, Waiting, Out}
use Rattle.table_lock.specs.declared.board.View.{View}
use Rattle.table_lock.specs.Entries.{EntryList, mine, StartsWith}
use Rattle.table_lock.specs.Rule.{Has, InRange, IsTicket, tickets, key_count, FitsView, HasValueInPlace, Keeps, opening_view}
use Rattle.table_lock.specs.Plays.{one_more, newcomer, both, spent}
use Rattle.table_lock.proofs.Lists.{all_set, all_snoc, at_below, at_either, at_only, total_set, one_le_total, two_le_total, starts_either}
use Rattle.table_lock.proofs.Maps.{has_left, has_right, has_either, has_some, has_only}

-- the function f, but c at i
abbrev put : (ℕ → ℕ) → ℕ → ℕ → ℕ → ℕ
put f i c j = cond (eqb j i) c (f j)

put_here : (f : ℕ → ℕ) (i c j : ℕ) → j ≡ i → put f i c j ≡ c
put_here f i c j e = ap (λ b. cond b c (f j)) (eq-eqb j i e)

put_else : (f : ℕ → ℕ) (i c j : ℕ) → j ≢ i → put f i c j ≡ f j
put_else f i c j n = ap (λ b. cond b c (f j)) (ne_eqb j i n)

-- the seat k, but `to` in place of `from`
abbrev moved : ℕ → ℕ → ℕ → ℕ
moved from to k = put (λ j. j) from to k

ticketless_range : (serving ticket : ℕ) (st : Stage) → tickets st ≡ 0 → InRange serving ticket st
ticketless_range serving ticket Spent e = tt
ticketless_range serving ticket Idle e = tt
ticketless_range serving ticket (Waiting t) e = absurd (omega arith)
ticketless_range serving ticket (Out t) e = absurd (omega arith)

ticketless : (st : Stage) (t : ℕ) → tickets st ≡ 0 → IsTicket st t → ⊥
ticketless Spent t e h = h
ticketless Idle t e h = h
ticketless (Waiting x) t e h = omega arith
ticketless (Out x) t e h = omega arith

ticketless_in : (st : Stage) → tickets st ≡ 0 → (t : ℕ) → st ≢ Out t
ticketless_in st e t is = let k = ap tickets is in omega arith

idle_alive : (v : View) → v.stage ≡ Idle → v.stage ≢ Spent
idle_alive v is z = let k : Idle ≡ Spent = sym is ∙ z in cc

-- the views are the old ones, but for some that have no ticket
abbrev Old : List View → List View → Type 0
Old views views' = (j : ℕ) (u : View) → get_elem? views' j ≡ some u → (get_elem? views j ≡ some u) ⊎ (tickets u.stage ≡ 0)

-- each view that is out stays
abbrev OutStay : List View → List View → Type 0
OutStay views views' = (j : ℕ) (u : View) (t : ℕ) → get_elem? views j ≡ some u → u.stage ≡ Out t → get_elem? views' j ≡ some u

module _ (F : List ℕ) (H : EntryList) (n : ℕ) (owner : ℕ → ℕ) where
  -- a view that a split leaves alone
  fits_beside : (j : ℕ) (v : View) → j ≢ owner 0 → FitsView F H n owner j v → FitsView F H (n + 1) (put owner n n) j v
  fits_beside j v other f = record {
    seen = f.seen;
    fixed = f.fixed;
    keys = λ i es h. let k = f.keys i es h in let b = k.0 in (omega arith, put_else owner n n i (λ z. omega arith) ∙ k.1, k.2);
    own = f.own;
    count = λ z. absurd (other (f.count z).1);
    told = f.told;
    spent = f.spent;
  }

  fits_one_more : (j : ℕ) (v : View) → v.stage ≢ Spent → v.seats ≢ 0 → FitsView F H n owner j v → FitsView F H (n + 1) (put owner n n) j (one_more v)
  fits_one_more j v alive counts f = record {
    seen = f.seen;
    fixed = f.fixed;
    keys = λ i es h. let k = f.keys i es h in let b = k.0 in (omega arith, put_else owner n n i (λ z. omega arith) ∙ k.1, k.2);
    own = f.own;
    count = λ _. let c = f.count counts in (ap (λ (z : ℕ). z + 1) c.0, c.1 ∙ sym (put_else owner n n 0 (λ z. counts (c.0 ∙ sym z))));
    told = f.told;
    spent = λ z. absurd (alive z);
  }

  fits_newcomer : (j : ℕ) (v : View) → j ≡ n → v.seats ≡ n → v.fixed ≡ F → mine n H ≡ [] → FitsView F H (n + 1) (put owner n n) j (newcomer v)
  fits_newcomer j v last seats fixed_is fresh = record {
    seen = (H, refl);
    fixed = λ _. fixed_is;
    keys = λ i es h. let o = has_only v.seats [] i es h in let number : i ≡ n = sym o.0 ∙ seats in
        (omega arith, put_here owner n n i number ∙ sym last, sym o.1 ∙ (sym fresh ∙ ap (λ (x : ℕ). mine x H) (sym number)));
    own = λ _. (v.seats, [], refl, (0, refl));
    count = λ z. absurd (z refl);
    told = λ k xs h. absurd (some-ne-none xs (sym h));
    spent = λ z. let k : Idle ≡ Spent = z in cc;
  }

  fits_spent : (owner' : ℕ → ℕ) (j : ℕ) → FitsView F H n owner' j spent
  fits_spent owner' j = record {
    seen = (H, refl);
    fixed = λ z. absurd (z refl);
    keys = λ i es h. absurd (some-ne-none (i, es) (sym h.1));
    own = λ z. absurd (z refl);
    count = λ z. absurd (z refl);
    told = λ k xs h. absurd (some-ne-none xs (sym h));
    spent = λ _. (refl, refl, refl, refl);
  }

  -- a view that a join of `other` into `id` leaves alone
  fits_apart : (id other j : ℕ) (v : View) → j ≢ other → FitsView F H n owner j v → FitsView F H n (λ i. moved other id (owner i)) j v
  fits_apart id other j v apart f = record {
    seen = f.seen;
    fixed = f.fixed;
    keys = λ i es h. let k = f.keys i es h in (k.0, put_else (λ x. x) other id (owner i) (λ z. apart (sym k.1 ∙ z)) ∙ k.1, k.2);
    own = f.own;
    count = λ z. let c = f.count z in (c.0, c.1 ∙ sym (put_else (λ x. x) other id (owner 0) (λ y. apart (c.1 ∙ y))));
    told = f.told;
    spent = f.spent;
  }

  fits_both : (id other : ℕ) (v w : View) → (other ≡ id → ⊥) → v.stage ≢ Spent → w.stage ≢ Spent → FitsView F H n owner id v → FitsView F H n owner other w
      → FitsView F H n (λ i. moved other id (owner i)) id (both v w)
  fits_both id other v w apart va wa f g = record {
    seen = starts_either H v.seen w.seen f.seen g.seen;
    fixed = λ _. f.fixed va;
    keys = λ i es h. ⊎_elim
        (λ (a : Has v.mine i es). let k = f.keys i es a in (k.0, put_else (λ x. x) other id (owner i) (λ z. apart (sym z ∙ k.1)) ∙ k.1, k.2))
        (λ (b : Has w.mine i es). let k = g.keys i es b in (k.0, put_here (λ x. x) other id (owner i) k.1, k.2))
        (has_either v.mine w.mine i es h);
    own = λ _. let o = f.own va in (o.0, o.1, o.2, has_left v.mine w.mine o.0 o.1 o.3);
    count = counts (ℕ_discrete v.seats 0);
    told = tells;
    spent = λ z. let k : Idle ≡ Spent = z in cc;
  }
    where
      counts : Dec (v.seats ≡ 0) → v.seats + w.seats ≢ 0 → (v.seats + w.seats ≡ n) × (id ≡ moved other id (owner 0))
      counts (yes e) z = let c = g.count (λ y. z (omega arith)) in let a = c.0 in (omega arith, sym (put_here (λ x. x) other id (owner 0) (sym c.1)))
      counts (no ne) z =
          let c = f.count ne in let a = c.0 in
          let none_there : w.seats ≡ 0 = dite (ℕ_discrete w.seats 0) (λ y. y) (λ y. absurd (apart ((g.count y).1 ∙ sym c.1))) in
          (omega arith, c.1 ∙ sym (put_else (λ x. x) other id (owner 0) (λ y. apart (sym y ∙ sym c.1))))

      tells : (k : ℕ) (xs : EntryList) → get_elem? (v.seen ∷ w.seen ∷ (v.told ++ w.told)) k ≡ some xs → StartsWith H xs
      tells zero xs e = subst (λ (x : EntryList). StartsWith H x) (some-injective v.seen xs e) f.seen
      tells (suc zero) xs e = subst (λ (x : EntryList). StartsWith H x) (some-injective w.seen xs e) g.seen
      tells (suc (suc k)) xs e = ⊎_elim (λ (a : get_elem? v.told k ≡ some xs). f.told k xs a) (λ (b : (j : ℕ) × (get_elem? w.told j ≡ some xs)). g.told b.0 xs b.1) (at_either v.told w.told k xs e)

module _ {V : Type 0} (history : V → EntryList) (fixed : V → List ℕ) (F : List ℕ) (N : ℕ) where
  abbrev St : Type 0
  St = State (Option V) View

  abbrev Homes : Type 0
  Homes = List (maybe.Option (Option V))

  abbrev K : St → Type 0
  K = Keeps history fixed F N

  abbrev Placed : EntryList → Homes → List View → Type 0
  Placed = HasValueInPlace history fixed F N

  module _ (s : St) (r : K s) (views' : List View) (old : Old s.views views') where
    ranges_old : (j : ℕ) (u : View) → get_elem? views' j ≡ some u → InRange r.serving r.ticket u.stage
    ranges_old j u e = ⊎_elim (λ (a : get_elem? s.views j ≡ some u). r.ranges j u a) (λ (b : tickets u.stage ≡ 0). ticketless_range r.serving r.ticket u.stage b) (old j u e)

    apart_old : (j : ℕ) (u : View) → get_elem? views' j ≡ some u → (k : ℕ) (w : View) → get_elem? views' k ≡ some w → (t : ℕ) → IsTicket u.stage t → IsTicket w.stage t → j ≡ k
    apart_old j u e k w h t a b = ⊎_elim
        (λ (x : get_elem? s.views j ≡ some u). ⊎_elim (λ (y : get_elem? s.views k ≡ some w). r.apart j u x k w y t a b) (λ (y : tickets w.stage ≡ 0). absurd (ticketless w.stage t y b)) (old k w h))
        (λ (x : tickets u.stage ≡ 0). absurd (ticketless u.stage t x a)) (old j u e)

    placed_old : OutStay s.views views' → Placed r.H s.homes s.views → Placed r.H s.homes views'
    placed_old stay (inl p) = inl (p.0, p.1, p.2, p.3, λ j u e. ⊎_elim (λ (a : get_elem? s.views j ≡ some u). p.4 j u a) (λ (b : tickets u.stage ≡ 0). ticketless_in u.stage b) (old j u e))
    placed_old stay (inr p) = inr (p.0, (p.1.0, p.1.1, p.1.2, stay p.1.0 p.1.1 p.1.2 p.1.3 p.1.4, p.1.4, p.1.5))

  -- a view that is out is not at the place of an idle one
  out_apart : (views : List View) (id : ℕ) (v : View) (j : ℕ) (u : View) (t : ℕ) → get_elem? views id ≡ some v → tickets v.stage ≡ 0 → get_elem? views j ≡ some u → u.stage ≡ Out t → j ≢ id
  out_apart views id v j u t at is atj out e =
      let same : u ≡ v = some-injective u v (sym atj ∙ (ap (λ (x : ℕ). get_elem? views x) e ∙ at)) in
      ticketless_in v.stage is t (ap (λ (x : View). x.stage) (sym same) ∙ out)

  pub splits : (id : ℕ) (v : View) → v.stage ≡ Idle → v.seats ≢ 0 → v.seats < N → Splits K id v (one_more v) (newcomer v)
  splits id v is counts room s r at = record {
    H = r.H;
    n = r.n + 1;
    owner = put r.owner r.n r.n;
    ticket = r.ticket;
    serving = r.serving;
    words = r.words;
    served = r.served;
    few = let k = known.0 in omega arith;
    most = r.most;
    has_count = (
      one_more v,
      ap (λ (x : ℕ). get_elem? (rest ++ newcomer v ∷ []) x) (put_else r.owner r.n r.n 0 (λ z. counts (known.0 ∙ sym z)) ∙ sym known.1) ∙ at_longer rest (newcomer v ∷ []) id (one_more v) (set_here s.views id (one_more v) (at_below s.views id v at)),
      ap (λ (z : ℕ). z + 1) known.0,
    );
    all = length-append rest (newcomer v ∷ []) ∙ ap (λ (z : ℕ). z + 1) (length-set s.views id (one_more v) ∙ r.all);
    counted =
        let a = sum_by_push (λ (u : View). tickets u.stage) rest (newcomer v) in
        let b = total_set (λ (u : View). tickets u.stage) s.views id v (one_more v) at in
        let c = r.counted in
        omega arith;
    shared =
        let a = sum_by_push (λ (u : View). length u.mine) rest (newcomer v) in
        let b = total_set (λ (u : View). length u.mine) s.views id v (one_more v) at in
        let c = r.shared in
        omega arith;
    ranges = ranges_old s r (rest ++ newcomer v ∷ []) old;
    apart = apart_old s r (rest ++ newcomer v ∷ []) old;
    each = all_snoc (λ j u. FitsView F r.H (r.n + 1) (put r.owner r.n r.n) j u) rest (newcomer v)
        (all_set (λ j u. FitsView F r.H (r.n + 1) (put r.owner r.n r.n) j u) s.views id (one_more v)
        (fits_one_more F r.H r.n r.owner id v alive counts f)
        (λ j u other atj. fits_beside F r.H r.n r.owner j u (λ e. other (e ∙ sym known.1)) (r.each j u atj)))
        (fits_newcomer F r.H r.n r.owner (length rest) v (length-set s.views id (one_more v) ∙ r.all) known.0 (f.fixed alive) (r.others r.n (omega arith)));
    keyed = λ i l. keyed_after i l (ℕ_discrete i r.n);
    others = λ i l. r.others i (omega arith);
    placed = placed_old s r (rest ++ newcomer v ∷ []) old
        (λ j u t atj out. at_longer rest (newcomer v ∷ []) j u (set_else s.views id j (one_more v) (out_apart s.views id v j u t at (ap tickets is) atj out) ∙ atj)) r.placed;
  }
    where
      rest : List View
      rest = set s.views id (one_more v)

      f : FitsView F r.H r.n r.owner id v
      f = r.each id v at

      alive : v.stage ≢ Spent
      alive = idle_alive v is

      known : (v.seats ≡ r.n) × (id ≡ r.owner 0)
      known = f.count counts

      old : Old s.views (rest ++ newcomer v ∷ [])
      old = all_snoc (λ j u. (get_elem? s.views j ≡ some u) ⊎ (tickets u.stage ≡ 0)) rest (newcomer v)
          (all_set (λ j u. (get_elem? s.views j ≡ some u) ⊎ (tickets u.stage ≡ 0)) s.views id (one_more v) (inr (ap tickets is)) (λ j u _ atj. inl atj)) (inr refl)

      keyed_after : (i : ℕ) → i < r.n + 1 → Dec (i ≡ r.n)
          → (u : View) × (es : EntryList) × (get_elem? (rest ++ newcomer v ∷ []) (put r.owner r.n r.n i) ≡ some u) × Has u.mine i es
      keyed_after i l (yes e) = (
        newcomer v,
        [],
        ap (λ (x : ℕ). get_elem? (rest ++ newcomer v ∷ []) x) (put_here r.owner r.n r.n i e) ∙ at_last rest (newcomer v) r.n (length-set s.views id (one_more v) ∙ r.all),
        (0, ap (λ (x : ℕ). some (x, [])) (known.0 ∙ sym e)),
      )
      keyed_after i l (no ne) = go (r.keyed i (omega arith))
        where
          go : (u : View) × (es : EntryList) × (get_elem? s.views (r.owner i) ≡ some u) × Has u.mine i es
              → (u : View) × (es : EntryList) × (get_elem? (rest ++ newcomer v ∷ []) (put r.owner r.n r.n i) ≡ some u) × Has u.mine i es
          go k = dite (ℕ_discrete (r.owner i) id)
              (λ same.
              let is_v : k.0 ≡ v = some-injective k.0 v (sym k.2 ∙ (ap (λ (x : ℕ). get_elem? s.views x) same ∙ at)) in (
                one_more v,
                k.1,
                ap (λ (x : ℕ). get_elem? (rest ++ newcomer v ∷ []) x) (put_else r.owner r.n r.n i ne ∙ same) ∙ at_longer rest (newcomer v ∷ []) id (one_more v) (set_here s.views id (one_more v) (at_below s.views id v at)),
                subst (λ (x : View). Has x.mine i k.1) is_v k.3,
              ))
              (λ other. (
                k.0,
                k.1,
                ap (λ (x : ℕ). get_elem? (rest ++ newcomer v ∷ []) x) (put_else r.owner r.n r.n i ne) ∙ at_longer rest (newcomer v ∷ []) (r.owner i) k.0 (set_else s.views id (r.owner i) (one_more v) other ∙ k.2),
                k.3,
              ))

  pub joins : (id : ℕ) (v : View) (other : ℕ) (w : View) → v.stage ≡ Idle → w.stage ≡ Idle → Joins K id v other w (both v w) spent
  joins id v other w is js s r at apart there = record {
    H = r.H;
    n = r.n;
    owner = λ i. moved other id (r.owner i);
    ticket = r.ticket;
    serving = r.serving;
    words = r.words;
    served = r.served;
    few = r.few;
    most = r.most;
    has_count = count_after r.has_count;
    all = length-set first other spent ∙ (length-set s.views id (both v w) ∙ r.all);
    counted =
        let a = total_set (λ (u : View). tickets u.stage) s.views id v (both v w) at in
        let b = total_set (λ (u : View). tickets u.stage) first other w spent there in
        let c = r.counted in let x = ap tickets is in let y = ap tickets js in
        omega arith;
    shared =
        let a = total_set (λ (u : View). length u.mine) s.views id v (both v w) at in
        let b = total_set (λ (u : View). length u.mine) first other w spent there in
        let c = r.shared in let l = length-append v.mine w.mine in
        omega arith;
    ranges = ranges_old s r (set first other spent) old;
    apart = apart_old s r (set first other spent) old;
    each = all_set (λ j u. FitsView F r.H r.n (λ i. moved other id (r.owner i)) j u) first other spent
        (fits_spent F r.H r.n r.owner (λ i. moved other id (r.owner i)) other)
        (λ j u others at_first. all_set (λ x y. x ≢ other → FitsView F r.H r.n (λ i. moved other id (r.owner i)) x y) s.views id (both v w)
        (λ _. fits_both F r.H r.n r.owner id other v w apart (idle_alive v is) (idle_alive w js) (r.each id v at) (r.each other w there_before))
        (λ x y _ atx o. fits_apart F r.H r.n r.owner id other x y o (r.each x y atx)) j u at_first others);
    keyed = λ i l. keyed_after i (r.keyed i l);
    others = r.others;
    placed = placed_old s r (set first other spent) old
        (λ j u t atj out. set_else first other j spent (out_apart s.views other w j u t there_before (ap tickets js) atj out)
        ∙ (set_else s.views id j (both v w) (out_apart s.views id v j u t at (ap tickets is) atj out) ∙ atj)) r.placed;
  }
    where
      first : List View
      first = set s.views id (both v w)

      there_before : get_elem? s.views other ≡ some w
      there_before = sym (set_else s.views id other (both v w) apart) ∙ there

      old : Old s.views (set first other spent)
      old = all_set (λ j u. (get_elem? s.views j ≡ some u) ⊎ (tickets u.stage ≡ 0)) first other spent (inr refl)
          (λ j u _ at_first. all_set (λ x y. (get_elem? s.views x ≡ some y) ⊎ (tickets y.stage ≡ 0)) s.views id (both v w) (inr refl) (λ x y _ atx. inl atx) j u at_first)

      taker : get_elem? (set first other spent) id ≡ some (both v w)
      taker = set_else first other id spent (λ e. apart (sym e)) ∙ set_here s.views id (both v w) (at_below s.views id v at)

      -- the taker has the count where either had it
      count_after : (u : View) × (get_elem? s.views (r.owner 0) ≡ some u) × (u.seats ≡ r.n) → (u : View) × (get_elem? (set first other spent) (moved other id (r.owner 0)) ≡ some u) × (u.seats ≡ r.n)
      count_after k = dite (ℕ_discrete (r.owner 0) other)
          (λ same.
          let is_w : k.0 ≡ w = some-injective k.0 w (sym k.1 ∙ (ap (λ (x : ℕ). get_elem? s.views x) same ∙ there_before)) in
          let none_here : v.seats ≡ 0 = dite (ℕ_discrete v.seats 0) (λ y. y) (λ y. absurd (apart (sym same ∙ sym ((r.each id v at).count y).1))) in (
            both v w,
            ap (λ (x : ℕ). get_elem? (set first other spent) x) (put_here (λ x. x) other id (r.owner 0) same) ∙ taker,
            (let c : w.seats ≡ r.n = ap (λ (x : View). x.seats) (sym is_w) ∙ k.2 in omega arith),
          ))
          (λ not_other. dite (ℕ_discrete (r.owner 0) id)
          (λ same.
          let is_v : k.0 ≡ v = some-injective k.0 v (sym k.1 ∙ (ap (λ (x : ℕ). get_elem? s.views x) same ∙ at)) in
          let none_there : w.seats ≡ 0 = dite (ℕ_discrete w.seats 0) (λ y. y) (λ y. absurd (not_other (sym ((r.each other w there_before).count y).1))) in (
            both v w,
            ap (λ (x : ℕ). get_elem? (set first other spent) x) (put_else (λ x. x) other id (r.owner 0) not_other ∙ same) ∙ taker,
            (let c : v.seats ≡ r.n = ap (λ (x : View). x.seats) (sym is_v) ∙ k.2 in omega arith),
          ))
          (λ not_id. (
            k.0,
            ap (λ (x : ℕ). get_elem? (set first other spent) x) (put_else (λ x. x) other id (r.owner 0) not_other)
                ∙ (set_else first other (r.owner 0) spent not_other ∙ (set_else s.views id (r.owner 0) (both v w) not_id ∙ k.1)),
            k.2,
          )))

      keyed_after : (i : ℕ) → (u : View) × (es : EntryList) × (get_elem? s.views (r.owner i) ≡ some u) × Has u.mine i es
          → (u : View) × (es : EntryList) × (get_elem? (set first other spent) (moved other id (r.owner i)) ≡ some u) × Has u.mine i es
      keyed_after i k = dite (ℕ_discrete (r.owner i) other)
          (λ same.
          let is_w : k.0 ≡ w = some-injective k.0 w (sym k.2 ∙ (ap (λ (x : ℕ). get_elem? s.views x) same ∙ there_before)) in (
            both v w,
            k.1,
            ap (λ (x : ℕ). get_elem? (set first other spent) x) (put_here (λ x. x) other id (r.owner i) same) ∙ taker,
            has_right v.mine w.mine i k.1 (subst (λ (x : View). Has x.mine i k.1) is_w k.3),
          ))
          (λ not_other. dite (ℕ_discrete (r.owner i) id)
          (λ same.
          let is_v : k.0 ≡ v = some-injective k.0 v (sym k.2 ∙ (ap (λ (x : ℕ). get_elem? s.views x) same ∙ at)) in (
            both v w,
            k.1,
            ap (λ (x : ℕ). get_elem? (set first other spent) x) (put_else (λ x. x) other id (r.owner i) not_other ∙ same) ∙ taker,
            has_left v.mine w.mine i k.1 (subst (λ (x : View). Has x.mine i k.1) is_v k.3),
          ))
          (λ not_id. (
            k.0,
            k.1,
            ap (λ (x : ℕ). get_elem? (set first other spent) x) (put_else (λ x. x) other id (r.owner i) not_other)
                ∙ (set_else first other (r.owner i) spent not_other ∙ (set_else s.views id (r.owner i) (both v w) not_id ∙ k.2)),
            k.3,
          )))

  -- what is known of the value at the end, by a view with every number
  pub record Ended (v : View) (xs : List (Option V)) : Type 0 where
    pub value : V
    pub slot : get_elem? xs 0 ≡ some (Some value)
    pub fixed_is : fixed value ≡ F
    pub entries : (i : ℕ) (es : EntryList) → Has v.mine i es → es ≡ mine i (history value)
    pub others : (i : ℕ) → N ≤ i → mine i (history value) ≡ []
    pub begins : StartsWith (history value) v.seen
    pub told : (k : ℕ) (h : EntryList) → get_elem? v.told k ≡ some h → StartsWith (history value) h
    pub numbers : (i : ℕ) → i < N → (es : EntryList) × Has v.mine i es

  -- where a pass between two turns has as many keys as there are numbers, it has each, and the value is in the slot
  pub ends : (id : ℕ) (v : View) → v.stage ≡ Idle → length v.mine ≡ N → (ws : List ℕ) (xs : List (Option V)) → Final (Seen K id v) ws xs → Ended v xs
  ends id v is all_keys ws xs fin = go r.placed
    where
      s : St
      s = fin.0

      r : K s
      r = fin.1.0

      at : get_elem? s.views id ≡ some v
      at = fin.1.1

      sizes : length v.mine ≤ key_count s.views
      sizes = one_le_total (λ (u : View). length u.mine) s.views id v at

      full : r.n ≡ N
      full = let a = r.shared in let b = r.few in let c = sizes in omega arith

      -- no other view has a key
      only_here : (j : ℕ) (u : View) (i : ℕ) (es : EntryList) → get_elem? s.views j ≡ some u → Has u.mine i es → (j ≡ id) × (u ≡ v)
      only_here j u i es atj h = dite (ℕ_discrete j id)
          (λ e. (e, some-injective u v (sym atj ∙ (ap (λ (x : ℕ). get_elem? s.views x) e ∙ at))))
          (λ ne. let a = two_le_total (λ (y : View). length y.mine) s.views j id u v ne atj at in let b = has_some u.mine i es h in let c = r.shared in let d = r.few in absurd (omega arith))

      f : FitsView F r.H r.n r.owner id v
      f = r.each id v at

      go : Placed r.H s.homes s.views → Ended v xs
      go (inl p) = record {
        value = p.0;
        slot = fin.4 0 (Some p.0) (ap (λ (hs : Homes). get_elem? hs 0) p.1);
        fixed_is = p.3;
        entries = λ i es h. (f.keys i es h).2 ∙ ap (mine i) (sym p.2);
        others = λ i l. let z = full in ap (mine i) p.2 ∙ r.others i (omega arith);
        begins = (f.seen.0, p.2 ∙ f.seen.1);
        told = λ k h e. let t = f.told k h e in (t.0, p.2 ∙ t.1);
        numbers = λ i l. let z = full in let k = r.keyed i (omega arith) in let o = only_here (r.owner i) k.0 i k.1 k.2 k.3 in (k.1, subst (λ (x : View). Has x.mine i k.1) o.1 k.3);
      }
      go (inr p) =
          let u = p.1.1 in
          let alive : u.stage ≢ Spent = λ z. let k : Out p.1.2 ≡ Spent = sym p.1.4 ∙ z in cc in
          let own = (r.each p.1.0 u p.1.3).own alive in
          let o = only_here p.1.0 u own.0 own.1 p.1.3 own.3 in
          absurd (out_apart s.views id v p.1.0 u p.1.2 at (ap tickets is) p.1.3 p.1.4 o.0)

  pub opens : (x : V) → history x ≡ [] → fixed x ≡ F → 1 ≤ N → N ≤ 34 → K (opening (0 ∷ 0 ∷ 0 ∷ []) (Some x ∷ []) (opening_view F))
  opens x empty same some_pass few = record {
    H = [];
    n = 1;
    owner = λ _. 0;
    ticket = 0;
    serving = 0;
    words = refl;
    served = omega arith;
    few = some_pass;
    most = few;
    all = refl;
    has_count = (opening_view F, refl, refl);
    counted = refl;
    shared = refl;
    ranges = λ j u e. subst (λ (y : View). InRange 0 0 y.stage) (at_only (opening_view F) j u e).1 tt;
    apart = λ j u e k w h t a b. (at_only (opening_view F) j u e).0 ∙ sym (at_only (opening_view F) k w h).0;
    each = λ j u e. let o = at_only (opening_view F) j u e in subst (λ (y : ℕ × View). FitsView F [] 1 (λ _. 0) y.0 y.1) (λ i. (sym o.0 i, o.1 i)) record {
      seen = ([], refl);
      fixed = λ _. refl;
      keys = λ i es h. let k = has_only 0 [] i es h in let n = k.0 in (omega arith, refl, sym k.1);
      own = λ _. (0, [], refl, (0, refl));
      count = λ _. (refl, refl);
      told = λ k xs h. absurd (some-ne-none xs (sym h));
      spent = λ z. let k : Idle ≡ Spent = z in cc;
    };
    keyed = λ i l. (opening_view F, [], refl, (0, ap (λ (n : ℕ). some (n, [])) (omega arith)));
    others = λ i l. refl;
    placed = inl (x, refl, empty, same, λ j u e. ticketless_in u.stage (ap (λ (y : View). tickets y.stage) (sym (at_only (opening_view F) j u e).1)));
  }
