use Rattle.std.proofs.Common.{◌≡◌, ◌∙◌, ◌-◌, ℕ, ◌≤◌, Bool, cond, true, false, List, None, Ok, Err, [], length, drop, take, refl, sym, ap, arith}
use Rattle.std.proofs.lemmas.List.{take_rest, length-take, length-drop}
use Rattle.std.proofs.lemmas.Result.{err_from_is_err_and}
use Rattle.byteorder.specs.Endian.{big_number}
use Rattle.dhcp6_read.specs.declared.message.Dhcp.{Dhcp}
use Rattle.dhcp6_read.specs.declared.message.DhcpFault.TheVariants.{Short}
use Rattle.dhcp6_read.specs.declared.message.Lease.{Lease}
use Rattle.dhcp6_read.specs.Message.{kind_of, tid_of}
use Rattle.dhcp6_read.proofs.Readings.{reads_so, reads_only, short_reads, relayed_reads, fault_reads, whole_reads}
use Rattle.dhcp6_read.proofs.reader.dhcp.Goals as goal
use Rattle.dhcp6_read.proofs.reader.dhcp.Goals.{then-void, else-void}

tid_is : (message : List ℕ) (tid : ℕ) → tid ≡ big_number 3 (take (length message - 1) (drop 1 message)) → tid ≡ tid_of message
unfolding tid_of
tid_is message tid e = e ∙ ap (big_number 3) (take_rest message 1)

pub returns-then-message-lt-MESSAGE_HEADER_LEN-clause-reading : goal.returns-then-message-lt-MESSAGE_HEADER_LEN-clause-reading
returns-then-message-lt-MESSAGE_HEADER_LEN-clause-reading c =
    let message = c.args.message.now in
    reads_so message (Err Short) (short_reads message c.if-message-lt-MESSAGE_HEADER_LEN.true)

pub returns-then-is_relay_message : goal.returns-then-is_relay_message
returns-then-is_relay_message c =
    let message = c.args.message.now in
    let tid = tid_is message c.read_u24.result c.read_u24.ensures in
    let d : Dhcp = record { kind = kind_of message; tid = c.read_u24.result; duid = None; rapid = false; leases = c.new.result } in
    let each = relayed_reads message d c.if-message-lt-MESSAGE_HEADER_LEN.false (sym c.if-is_relay_message.ensures) refl tid refl refl c.new.ensures in
    record { reading = reads_so message (Ok d) each; only = reads_only message (Ok d) each; few = omega (arith, ap length c.new.ensures) }

pub returns-in_err-void : goal.returns-in_err-void
returns-in_err-void c =
    let message = c.args.message.now in
    let octets = take (length message - 4) (drop 4 message) in
    let fault = c.in_err-void.field-0.0 in
    let p = err_from_is_err_and c.from_residual.result c.from_residual.ensures.1 in
    let each = fault_reads message octets fault c.new.result.items c.read_options.new.dhcp.leases.items c.if-message-lt-MESSAGE_HEADER_LEN.false (take_rest message 4) (sym c.if-is_relay_message.ensures) c.in_err-void.ensures.tells in
    rw (p.1, p.2) (record { reading = reads_so message (Err fault) each; only = reads_only message (Err fault) each; few = tt })

pub returns : goal.returns
returns c =
    let message = c.args.message.now in
    let octets = take (length message - 4) (drop 4 message) in
    let read = c.read_options.new.dhcp in
    let d = c.if-void.dhcp in
    let void = c.in_ok-void.void in
    let told = c.in_ok-void.ensures in
    let none : List Lease = [] in
    let kind : d.kind ≡ read.kind = elim c.if-void.branch [ then-void w ↦ ap (λ (x : Dhcp). x.kind) w.dhcp-is | else-void w ↦ ap (λ (x : Dhcp). x.kind) w.dhcp-is ] in
    let tid : d.tid ≡ read.tid = elim c.if-void.branch [ then-void w ↦ ap (λ (x : Dhcp). x.tid) w.dhcp-is | else-void w ↦ ap (λ (x : Dhcp). x.tid) w.dhcp-is ] in
    let duid : d.duid ≡ read.duid = elim c.if-void.branch [ then-void w ↦ ap (λ (x : Dhcp). x.duid) w.dhcp-is | else-void w ↦ ap (λ (x : Dhcp). x.duid) w.dhcp-is ] in
    let rapid : d.rapid ≡ read.rapid = elim c.if-void.branch [ then-void w ↦ ap (λ (x : Dhcp). x.rapid) w.dhcp-is | else-void w ↦ ap (λ (x : Dhcp). x.rapid) w.dhcp-is ] in
    let leases : d.leases.items ≡ cond void none read.leases.items = elim c.if-void.branch [
      | then-void w ↦ ap (λ (x : Dhcp). x.leases.items) w.dhcp-is ∙ w.clear.ensures ∙ ap (λ (b : Bool). cond b none read.leases.items) (sym w.if-void.true)
      | else-void w ↦ ap (λ (x : Dhcp). x.leases.items) w.dhcp-is ∙ ap (λ (b : Bool). cond b none read.leases.items) (sym w.if-void.false)
    ] in
    let each = whole_reads message octets d void c.new.result.items read.leases.items c.if-message-lt-MESSAGE_HEADER_LEN.false (take_rest message 4) (sym c.if-is_relay_message.ensures) (λ row_of gives. record {
      kind = kind ∙ told.kind;
      tid = tid ∙ told.tid ∙ tid_is message c.read_u24.result c.read_u24.ensures;
      duid = duid ∙ told.duid row_of gives;
      rapid = rapid ∙ told.rapid row_of gives;
    }) told.tells c.new.ensures leases in
    let few : length (cond void none read.leases.items) ≤ 51 = elim void as (λ b. length (cond b none read.leases.items) ≤ 51) [ true ↦ omega arith | false ↦ omega (arith, told.room, ap length c.new.ensures, length-take (length message - 4) (drop 4 message), length-drop 4 message) ] in
    record { reading = reads_so message (Ok d) each; only = reads_only message (Ok d) each; few = omega (arith, ap length leases, few) }
