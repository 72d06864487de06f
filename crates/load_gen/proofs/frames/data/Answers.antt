use Rattle.std.proofs.Common.{◌≡◌, ℕ, List, [], ◌∷◌, ◌++◌, ◌∙◌}
use Rattle.std.proofs.lemmas.List.{append_assoc}
use Rattle.std.specs.Int.{bytes_high_first}
use Rattle.savi_kinds.specs.declared.address.Addr.{Addr}
use Rattle.savi_kinds.specs.declared.address.Mac.{Mac}
use Rattle.load_gen.specs.Frames.{data_of, ethernet_to_router, router_address}
use Rattle.load_gen.proofs.frames.data.Goals as goal

-- pieces appended to what stands before, one by one or together
joined : (x a b c d : List ℕ) → x ++ a ++ b ++ c ++ d ≡ x ++ (a ++ b ++ c ++ d)
joined x a b c d = simp append_assoc

frame_is : (mac : Mac) (source : Addr) → [] ++ (2 ∷ 0 ∷ 0 ∷ 0 ∷ 0 ∷ 254 ∷ []) ++ mac.0 ++ (134 ∷ 221 ∷ []) ++ (96 ∷ 0 ∷ 0 ∷ 0 ∷ 0 ∷ 0 ∷ []) ++ (59 ∷ 64 ∷ []) ++ bytes_high_first 16 source.0 ++ bytes_high_first 16 router_address.0 ≡ data_of mac source
unfolding data_of
frame_is mac source =
    joined (ethernet_to_router mac) (96 ∷ 0 ∷ 0 ∷ 0 ∷ 0 ∷ 0 ∷ []) (59 ∷ 64 ∷ []) (bytes_high_first 16 source.0) (bytes_high_first 16 router_address.0)

pub returns : goal.returns
returns c =
    let got : c.unwrap.result ≡ c.append-7.new.frame.items = rw c.unwrap.ensures at c.into_inner.ensures.ok in
    got
    ∙ rw (c.append-7.ensures.items, c.append-6.ensures.items, c.append-5.ensures.items, c.append-4.ensures.items, c.append-3.ensures.items, c.append-2.ensures.items, c.append.ensures.items, c.new-frame.ensures, c.to_be_bytes.ensures, c.to_be_bytes-2.ensures, c.to_be_bytes-3.ensures) (frame_is c.args.mac c.args.source)
