-- The buckets of a wheel, each a ring of nodes in rising order of moment, then address. A node below 1,024 is the end of a
-- bucket's ring, and node 1,024 + key is the row under this key.
use Rattle.std.specs.Prelude.{ℕ, ◌≡◌, ◌≢◌, ◌<◌, ◌+◌, ◌-◌, ◌*◌, ◌/◌, ◌%◌, ◌^◌, ◌==◌, nat_lt, Bool, true, false, ◌||◌, if◌then◌else◌, is_some, Option, None, Some, List, slice_index}
use Rattle.savi_kinds.specs.Orders.{is_due_before}
use Rattle.timer_wheel.specs.declared.armed.Armed.{Armed}
use Rattle.timer_wheel.specs.Rows.{armed_at}

-- the slice of time in which a pair is due, each of 64 ms
abbrev pub slice_of : Armed → ℕ
slice_of armed = armed.due / 64

-- the bucket of that slice
abbrev pub bucket_of : Armed → ℕ
bucket_of armed = slice_of armed % 1024

-- whether a pair is due before another one, by moment and then by address
abbrev pub is_sooner : Armed → Armed → Bool
is_sooner x y = is_due_before x.due x.address.0 y.due y.address.0

-- which of two is sooner, where there are any
abbrev pub sooner_of : Option Armed → Option Armed → Option Armed
sooner_of None other = other
sooner_of (Some x) None = Some x
sooner_of (Some x) (Some y) = if is_sooner y x then Some y else Some x

-- whether there is one that is due in a slice
abbrev pub is_in : ℕ → Option Armed → Bool
is_in slice None = false
is_in slice (Some armed) = slice_of armed == slice

-- the row of a node, or none at an end
abbrev pub node_row : List (Option Armed) → ℕ → Option Armed
node_row slots node = if nat_lt node 1024 then None else armed_at slots (node - 1024)

-- whether a number is that of an end, or of a row that is there
abbrev pub is_node : List (Option Armed) → ℕ → Bool
is_node slots node = nat_lt node 1024 || is_some (node_row slots node)

abbrev pub bucket_in : ℕ → Option Armed → ℕ
bucket_in node None = node
bucket_in node (Some armed) = bucket_of armed

-- the bucket of a node
abbrev pub bucket_at : List (Option Armed) → ℕ → ℕ
bucket_at slots node = bucket_in node (node_row slots node)

-- where a pair stands in this order
abbrev pub rank_of : Armed → ℕ
rank_of armed = armed.due * 2 ^ 128 + armed.address.0 + 1

abbrev pub rank_in : Option Armed → ℕ
rank_in None = 0
rank_in (Some armed) = rank_of armed

-- the rank of a node: 0 at an end
abbrev pub rank_at : List (Option Armed) → ℕ → ℕ
rank_at slots node = rank_in (node_row slots node)

-- The nodes form rings: the one behind a node and the one before it are nodes of its bucket, and each is the other's other
-- neighbor. The one behind a node has a higher rank, or is an end.
pub record IsLinked (is_node : ℕ → Bool) (bucket rank later earlier : ℕ → ℕ) : Type 0 where
  pub next : (node : ℕ) → is_node node ≡ true → is_node (later node) ≡ true
  pub same : (node : ℕ) → is_node node ≡ true → bucket (later node) ≡ bucket node
  pub back : (node : ℕ) → is_node node ≡ true → earlier (later node) ≡ node
  pub before : (node : ℕ) → is_node node ≡ true → is_node (earlier node) ≡ true
  pub forth : (node : ℕ) → is_node node ≡ true → later (earlier node) ≡ node
  pub rising : (node : ℕ) → is_node node ≡ true → rank (later node) ≢ 0 → rank node < rank (later node)

-- the rows of these slots are linked by these neighbors of each node
abbrev pub IsRinged : List (Option Armed) → List ℕ → List ℕ → Type 0
IsRinged slots later earlier = IsLinked (is_node slots) (bucket_at slots) (rank_at slots) (slice_index later) (slice_index earlier)
