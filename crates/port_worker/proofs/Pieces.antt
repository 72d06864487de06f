-- The pieces of an output, written one after the other.
use Rattle.std.proofs.Common.{◌≡◌, ℕ, zero, suc, ◌+◌, ◌<◌, List, [], ◌∷◌, ◌++◌, length, take, drop, get_or, sym, ap, ◌∙◌, subst, arith, append_assoc, append-nil, Option, Some, None, slice_get}
use Rattle.std.specs.List.{concat}
use Rattle.std.proofs.Math.Seq.{take-append-add}
use Rattle.std.proofs.Math.ListN.{get_or-append}
use Rattle.std.proofs.lemmas.List.{take_more, map-append, length-map, length-append, get_or-append-add, take-append-le, take-append-drop}
use Rattle.std.proofs.lemmas.List.Folds.{concat-append}
use Rattle.savi_ends.specs.declared.sink.Put.{Put}
use Rattle.savi_ends.specs.declared.sink.Put.TheVariants as put
use Rattle.savi_ends.specs.Octets.{behind, IsFront}
use Rattle.savi_ends.specs.Writes.{Extends}
use Rattle.savi_ends.proofs.Octets.{behind_again}
use Rattle.pcap_io.specs.Captures.{header_text, record_text}
use Rattle.savi_history.specs.Queues.{Item}
use Rattle.savi_history.specs.PortOutputs.{pieces, TookPieces}
use Rattle.savi_core.specs.Batches.{item_with}
use Rattle.port_worker.specs.SentFrames.{records, TookAs}

-- pieces, and then more of them

pub took_then : (before mid after : Option (List ℕ)) (xs ys : List (List ℕ)) → TookPieces before mid xs None → TookPieces mid after ys None → TookPieces before after (xs ++ ys) None
took_then before mid after xs ys first later =
    later ∙ ap (λ (o : Option (List ℕ)). behind o (concat ys)) first ∙ behind_again before (concat xs) (concat ys) ∙ ap (behind before) (sym (concat-append xs ys))

pub took_until : (before mid after : Option (List ℕ)) (xs ys : List (List ℕ)) (whole : ℕ) → TookPieces before mid xs None → TookPieces mid after ys (Some whole) → TookPieces before after (xs ++ ys) (Some (length xs + whole))
took_until before mid after xs ys whole first later =
    let size = length-append xs ys in
    let inside = later.0 in
    let front = later.1 in
    let octets : concat (take (length xs + whole) (xs ++ ys)) ≡ concat xs ++ concat (take whole ys) =
    ap (λ (l : List (List ℕ)). concat l) (take-append-add xs ys whole) ∙ concat-append xs (take whole ys) in (
      omega (arith, size, inside),
      front,
      subst (λ (l : List ℕ). IsFront front l) (sym (get_or-append-add xs ys whole [])) later.2,
      later.3
          ∙ ap (λ (o : Option (List ℕ)). behind o (concat (take whole ys) ++ front)) first
          ∙ behind_again before (concat xs) (concat (take whole ys) ++ front)
          ∙ ap (behind before) (sym (append_assoc (concat xs) (concat (take whole ys)) front) ∙ ap (λ (l : List ℕ). l ++ front) (sym octets)),
    )

-- one write

single_first : (piece : List ℕ) → concat (piece ∷ []) ≡ piece
single_first piece = append-nil piece

pub took_one : (answer : Put) (before after : Option (List ℕ)) (piece : List ℕ) → Extends answer before after piece → TookAs answer before after (piece ∷ [])
took_one put.Done before after piece extends = extends ∙ ap (behind before) (sym (single_first piece))
took_one put.Failed before after piece extends = (0, (omega arith, extends.0, extends.1, extends.2))

-- the records of a batch, one after the other

abbrev record_of : Item → List ℕ
record_of item = record_text item.moment item.octets

pub records-append : (xs ys : List Item) → records (xs ++ ys) ≡ records xs ++ records ys
records-append xs ys = map-append record_of xs ys

pub length-records : (xs : List Item) → length (records xs) ≡ length xs
length-records xs = length-map xs record_of

pub pieces-append : (xs ys : List Item) → pieces (xs ++ ys) ≡ pieces xs ++ records ys
pieces-append xs ys = ap (λ (l : List (List ℕ)). header_text ∷ l) (records-append xs ys)

get_at : (xs : List Item) (i : ℕ) (x d : Item) → slice_get xs i ≡ Some x → get_or xs i d ≡ x
get_at [] i x d is = cc
get_at (y ∷ ys) zero x d is = cc
get_at (y ∷ ys) (suc i) x d is = get_at ys i x d is

-- what stands behind a front of a batch
split_at : (batch : List Item) (i moment : ℕ) (frame : List ℕ) → i < length batch → slice_get batch i ≡ Some (item_with moment frame) → take (i + 1) batch ≡ take i batch ++ item_with moment frame ∷ []
split_at batch i moment frame inside item =
    take_more batch i (item_with moment frame) inside ∙ ap (λ (x : Item). take i batch ++ x ∷ []) (get_at batch i (item_with moment frame) (item_with moment frame) item)

-- one more frame of a batch is written
pub wrote_more : (first mid new : Option (List ℕ)) (batch : List Item) (i moment : ℕ) (frame : List ℕ) → i < length batch → slice_get batch i ≡ Some (item_with moment frame)
    → TookPieces first mid (records (take i batch)) None → Extends put.Done mid new (record_text moment frame) → TookPieces first new (records (take (i + 1) batch)) None
wrote_more first mid new batch i moment frame inside item so_far wrote =
    subst (λ (l : List (List ℕ)). TookPieces first new l None)
    (sym (ap records (split_at batch i moment frame inside item) ∙ records-append (take i batch) (item_with moment frame ∷ [])))
    (took_then first mid new (records (take i batch)) (record_text moment frame ∷ []) so_far (took_one put.Done mid new (record_text moment frame) wrote))

-- a failed write in front of more of them
front_of_more : (before after : Option (List ℕ)) (xs ys : List (List ℕ)) (whole : ℕ) → TookPieces before after xs (Some whole) → TookPieces before after (xs ++ ys) (Some whole)
front_of_more before after xs ys whole took =
    let inside = took.0 in
    let size = length-append xs ys in (
      omega (arith, size, inside),
      took.1,
      subst (λ (l : List ℕ). IsFront took.1 l) (sym (get_or-append xs ys [] whole inside)) took.2,
      took.3 ∙ ap (λ (l : List (List ℕ)). behind before (concat l ++ took.1)) (sym (take-append-le whole xs ys (omega (arith, inside)))),
    )

-- a frame of a batch that is not written whole
pub wrote_front : (first mid new : Option (List ℕ)) (batch : List Item) (i moment : ℕ) (frame : List ℕ) → i < length batch → slice_get batch i ≡ Some (item_with moment frame)
    → TookPieces first mid (records (take i batch)) None → Extends put.Failed mid new (record_text moment frame) → TookAs put.Failed first new (records batch)
wrote_front first mid new batch i moment frame inside item so_far wrote =
    let failed = took_one put.Failed mid new (record_text moment frame) wrote in
    let here = took_until first mid new (records (take i batch)) (record_text moment frame ∷ []) failed.0 so_far failed.1 in
    let upto : records (take (i + 1) batch) ≡ records (take i batch) ++ record_text moment frame ∷ [] =
    ap records (split_at batch i moment frame inside item) ∙ records-append (take i batch) (item_with moment frame ∷ []) in
    let all : (records (take i batch) ++ record_text moment frame ∷ []) ++ records (drop (i + 1) batch) ≡ records batch =
    ap (λ (l : List (List ℕ)). l ++ records (drop (i + 1) batch)) (sym upto)
    ∙ sym (records-append (take (i + 1) batch) (drop (i + 1) batch))
    ∙ ap records (take-append-drop (i + 1) batch) in (
      length (records (take i batch)) + failed.0,
      subst (λ (l : List (List ℕ)). TookPieces first new l (Some (length (records (take i batch)) + failed.0))) all
          (front_of_more first new (records (take i batch) ++ record_text moment frame ∷ []) (records (drop (i + 1) batch)) (length (records (take i batch)) + failed.0) here),
    )

-- What a sink took up to a failed write is a front of the whole that holds the pieces before.
pub front_of_all : (given : List (List ℕ)) (whole : ℕ) (front : List ℕ) → IsFront front (get_or given whole []) → whole < length given → IsFront (concat (take whole given) ++ front) (concat given)
front_of_all [] whole front is inside = absurd (omega arith)
front_of_all (x ∷ xs) zero front is inside = (is.0 ++ concat xs, ap (λ (l : List ℕ). l ++ concat xs) is.1 ∙ append_assoc front is.0 (concat xs))
front_of_all (x ∷ xs) (suc whole) front is inside =
    let later = front_of_all xs whole front is (omega arith) in
    (later.0, ap (λ (l : List ℕ). x ++ l) later.1 ∙ sym (append_assoc x (concat (take whole xs) ++ front) later.0) ∙ ap (λ (l : List ℕ). l ++ later.0) (sym (append_assoc x (concat (take whole xs)) front)))

-- what was written before the last pieces is a front of what a sink took of them
pub sure_front : (xs ys : List (List ℕ)) (whole : ℕ) (front : List ℕ) → IsFront (concat xs) (concat (take (length xs + whole) (xs ++ ys)) ++ front)
sure_front xs ys whole front = (
  concat (take whole ys) ++ front,
  ap (λ (l : List (List ℕ)). concat l ++ front) (take-append-add xs ys whole)
      ∙ ap (λ (l : List ℕ). l ++ front) (concat-append xs (take whole ys))
      ∙ append_assoc (concat xs) (concat (take whole ys)) front,
)
