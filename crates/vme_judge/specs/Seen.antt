-- What is seen of a trace: its counts, and the transfer that is open.
use Rattle.std.specs.Prelude.{ℕ, ◌+◌, ◌-◌, ◌/◌, ◌^◌, min, bit_and, Bool, not, ◌==◌, ◌&&◌, ◌||◌, if◌then◌else◌, Option, Some, None}
use Rattle.std.specs.Int.{w32, trailing_zeros}
use Rattle.std.specs.Option.{option_map}
use Rattle.vme_protocol.specs.declared.datum.Datum.{Datum}
use Rattle.vme_protocol.specs.declared.sample.Sample.{Sample}
use Rattle.vme_judge.specs.declared.counts.Counts.{Counts}
use Rattle.vme_judge.specs.declared.transfer.OpenTransfer.{OpenTransfer}

-- nothing
abbrev pub no_counts : Counts
no_counts = record { transfers = 0; «data» = 0; tenures = 0; accesses = 0; samples = 0; skipped = 0 }

-- a count with one more, up to the greatest number
abbrev pub one_more : ℕ → ℕ
one_more count = min (count + 1) (2 ^ 64 - 1)

-- a count with one more, if there is
abbrev pub more_if : Bool → ℕ → ℕ
more_if test count = if test then one_more count else count

-- whether a datum or a local access was counted
abbrev pub has_counted : Counts → Bool
has_counted c = not (c.«data» == 0 && c.accesses == 0)

-- whether AS* falls
abbrev pub begins_transfer : Sample → Sample → Bool
begins_transfer before s = before.address_strobe && not s.address_strobe

-- whether AS* rises
abbrev pub ends_transfer : Sample → Sample → Bool
ends_transfer before s = not before.address_strobe && s.address_strobe

-- what is counted as a transfer and a tenure begin; a transfer with IACK* low is none that is counted
abbrev pub counts_opened : Sample → Sample → Counts → Counts
counts_opened before s c = record c {
  transfers = more_if (begins_transfer before s && s.iack) c.transfers;
  tenures = more_if (before.busy && not s.busy) c.tenures;
}

-- what is counted with one datum more
abbrev pub with_data : Counts → Counts
with_data c = record c { «data» = one_more c.«data» }

-- the slot that drives BBSY*, if exactly one does
abbrev pub driver_of : ℕ → Option ℕ
driver_of drivers =
    if drivers == 0 || not (bit_and drivers (drivers - 1) == 0) then None else Some (trailing_zeros w32 drivers + 1)

-- the transfer that a sample opens
unfoldable pub opened_by : Sample → OpenTransfer
opened_by s = record {
  am = s.am;
  address = bit_and (s.lines / 2 ^ 32) 0xfffffffe;
  slot = driver_of s.drivers;
  «data» = 0;
  since = Some s.time;
}

-- the transfer that is open, as AS* falls
abbrev pub opened_at : Sample → Sample → Option OpenTransfer → Option OpenTransfer
opened_at before s t = if begins_transfer before s then Some (opened_by s) else t

-- the number of its last datum
abbrev pub with_datum : Datum → Option OpenTransfer → Option OpenTransfer
with_datum d t = option_map (λ (t : OpenTransfer). record t { «data» = d.index }) t

-- the transfer that is open after a sample: none as AS* rises
abbrev pub closed_at : Sample → Sample → Option OpenTransfer → Option OpenTransfer
closed_at before s t = if ends_transfer before s then None else t

-- a transfer of which no trace shows at which time AS* fell
abbrev pub without_start : OpenTransfer → OpenTransfer
without_start t = record t { since = None }
