-- What is kept stays so with one more.
use Rattle.std.proofs.Common.{ℕ, ◌≡◌, List, [], ◌∷◌, ◌++◌, length, sym, ap, subst, ◌∙◌}
use Rattle.std.specs.List.{insert, flat_map}
use Rattle.bridge_fdb.specs.declared.station.Station.{Station}
use Rattle.dhcp_states.specs.declared.request.Request.{Request}
use Rattle.savi_access.specs.declared.row.Row.{Row}
use Rattle.checkpoint.specs.declared.part.Part.{Part}
use Rattle.checkpoint.specs.Columns.{IsUpTo, IsByVlan}
use Rattle.checkpoint.specs.Orders.{requests_in_order, request_placed}
use Rattle.checkpoint.specs.Parts.{parts_of}
use Rattle.checkpoint.specs.Kept.{IsKept, OrdersRequests}
use Rattle.checkpoint.proofs.ByVlan.{by_vlan_push}
use Rattle.checkpoint.proofs.PartLines.{parts_push}
use Rattle.checkpoint.proofs.Placing.{ordered_push}

ordered_as : (requests : List (ℕ × Request)) (places : List ℕ) (request : ℕ × Request) (n place : ℕ) (more : List (ℕ × Request)) (places_too : List ℕ) → OrdersRequests requests places → request_placed request (requests_in_order requests) ≡ insert (requests_in_order requests) n request
    → more ≡ requests ++ request ∷ [] → places_too ≡ insert places n place → place ≡ length requests → OrdersRequests more places_too
ordered_as requests places request n place more places_too told at is places_are place_is =
    subst (λ (l : List (ℕ × Request)). OrdersRequests l places_too) (sym is)
    (subst (λ (l : List ℕ). OrdersRequests (requests ++ request ∷ []) l) (sym (places_are ∙ ap (λ (k : ℕ). insert places n k) place_is))
    (ordered_push requests places request n told at))

module _ (rows : List (ℕ × Row)) (parts : List Part) (requests : List (ℕ × Request)) (places : List ℕ) (stations : List (ℕ × Station)) (was : IsKept rows parts requests places stations) where
  -- a row, and its parts
  pub kept_row : (row : ℕ × Row) (more : List (ℕ × Row)) (parts_too : List Part) → IsUpTo row.0 rows → more ≡ rows ++ row ∷ [] → parts_too ≡ parts ++ parts_of row → IsKept more parts_too requests places stations
  kept_row row more parts_too up is parts_are = record {
    parts_is = parts_push rows row parts parts_too was.parts_is parts_are ∙ ap (flat_map parts_of) (sym is);
    ordered = was.ordered;
    rows_by = subst (λ (l : List (ℕ × Row)). IsByVlan l) (sym is) (by_vlan_push rows row was.rows_by up);
    requests_by = was.requests_by;
    stations_by = was.stations_by;
  }

  -- a request, and its place
  pub kept_request : (request : ℕ × Request) (n place : ℕ) (more : List (ℕ × Request)) (places_too : List ℕ) → IsUpTo request.0 requests → request_placed request (requests_in_order requests) ≡ insert (requests_in_order requests) n request
      → more ≡ requests ++ request ∷ [] → places_too ≡ insert places n place → place ≡ length requests → IsKept rows parts more places_too stations
  kept_request request n place more places_too up at is places_are place_is = record {
    parts_is = was.parts_is;
    ordered = ordered_as requests places request n place more places_too was.ordered at is places_are place_is;
    rows_by = was.rows_by;
    requests_by = subst (λ (l : List (ℕ × Request)). IsByVlan l) (sym is) (by_vlan_push requests request was.requests_by up);
    stations_by = was.stations_by;
  }

  pub kept_station : (station : ℕ × Station) (more : List (ℕ × Station)) → IsUpTo station.0 stations → more ≡ stations ++ station ∷ [] → IsKept rows parts requests places more
  kept_station station more up is = record {
    parts_is = was.parts_is;
    ordered = was.ordered;
    rows_by = was.rows_by;
    requests_by = was.requests_by;
    stations_by = subst (λ (l : List (ℕ × Station)). IsByVlan l) (sym is) (by_vlan_push stations station was.stations_by up);
  }
