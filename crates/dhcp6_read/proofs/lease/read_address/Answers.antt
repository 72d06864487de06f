use Rattle.std.proofs.Common.{◌≡◌, ◌++◌, ℕ, List, [], ◌∷◌, Ok, Err, drop, length, nat_lt, ap, ◌∙◌, subst}
use Rattle.std.proofs.lemmas.Bool.{le-ltb}
use Rattle.std.proofs.lemmas.List.{take_rest}
use Rattle.std.proofs.lemmas.Result.{err_from_is_err_and}
use Rattle.byteorder.specs.Endian.{big_number}
use Rattle.dhcp6_read.specs.declared.message.Lease.{Lease}
use Rattle.dhcp6_read.specs.declared.message.DhcpFault.TheVariants.{Address}
use Rattle.dhcp6_read.specs.Levels.{row_says, in_address, faulty, lease_of}
use Rattle.dhcp6_read.specs.Steps.{TellsLeases}
use Rattle.dhcp6_read.proofs.Holders.{holder_fault, holder_stands}
use Rattle.dhcp6_read.proofs.lease.read_address.Goals as goal

pub returns-in_err-read_address_options-clause-tells : goal.returns-in_err-read_address_options-clause-tells
returns-in_err-read_address_options-clause-tells c = λ row_of gives.
    let content = c.args.content.now in
    let leases = c.args.leases.now.items in
    let fault = c.in_err-read_address_options.field-0.0 in
    let p = err_from_is_err_and c.from_residual.result c.from_residual.ensures.1 in
    let P : List ℕ → Type 0 = λ l. TellsLeases (row_says (in_address c.args.kind) (row_of l)) (Err fault) [] [] in
    let told = subst P (take_rest content 24) (c.in_err-read_address_options.ensures row_of gives) in
    rw (p.1, p.2) (holder_fault (nat_lt (length content) 24) (faulty Address) (row_says (in_address c.args.kind) (row_of (drop 24 content))) (lease_of content ∷ []) fault [] [] leases leases (le-ltb (length content) 24 c.if-content-lt-ADDRESS_FIXED_LEN.false) told)

read_as : (content : List ℕ) (address valid : ℕ) → address ≡ big_number 16 content → valid ≡ big_number 4 (drop 20 content) → record { address = record { 0 = address }; valid = valid } ≡ lease_of content
unfolding lease_of
read_as content address valid e f =
    let made : ℕ → ℕ → Lease = λ a v. record { address = record { 0 = a }; valid = v } in
    ap (λ (a : ℕ). made a valid) e ∙ ap (λ (v : ℕ). made (big_number 16 content) v) f

pub returns-then-not-branch-clause-tells : goal.returns-then-not-branch-clause-tells
returns-then-not-branch-clause-tells c = λ row_of gives.
    let content = c.args.content.now in
    let before = c.args.leases.now.items in
    let P : List ℕ → Type 0 = λ l. TellsLeases (row_says (in_address c.args.kind) (row_of l)) (Ok c.in_ok-read_address_options.field-0) [] [] in
    let told = subst P (take_rest content 24) (c.in_ok-read_address_options.ensures row_of gives) in
    let stands = c.if-not-branch.true in
    let lease = read_as content c.read_u128.result c.read_u32.result c.read_u128.ensures (c.read_u32.ensures ∙ ap (big_number 4) (take_rest content 20)) in
    let none : List Lease = [] in
    holder_stands (nat_lt (length content) 24) (faulty Address) (row_says (in_address c.args.kind) (row_of (drop 24 content))) (lease_of content ∷ []) before c.push.new.self.items (le-ltb (length content) 24 c.if-content-lt-ADDRESS_FIXED_LEN.false) told.0 (told.1 ∙ stands) (c.push.ensures.items ∙ ap (λ (l : Lease). before ++ l ∷ none) lease)
