-- The state of this crate's devices, as contracts see it.
use Rattle.std.specs.Prelude.{ℕ, Bool, List}
use Rattle.vme_io.specs.declared.system.Io.{Io}
use Rattle.vme_io.specs.declared.memory.SliceSource.{SliceSource}
use Rattle.vme_io.specs.declared.memory.RoomSink.{RoomSink}

-- whether a read or a write of the device has failed
abbrev pub mark_of : {T : Type 0} → Io T → Bool
mark_of io = io.marked

-- the inner reader or writer of a device
abbrev pub inner_of : {T : Type 0} → Io T → T
inner_of io = io.inner

-- the bytes that a memory source has left
abbrev pub rest_of_source : SliceSource → List ℕ
rest_of_source source = source.rest.now

-- whether a read of a memory source has failed
abbrev pub is_marked_source : SliceSource → Bool
is_marked_source source = source.marked

-- the greatest number of bytes that a memory source returns in one call
abbrev pub most_given : SliceSource → ℕ
most_given source = source.most

-- the number of bytes that a memory source returns before it fails
abbrev pub left_to_give : SliceSource → ℕ
left_to_give source = source.left

-- the bytes that a memory sink has taken
abbrev pub taken_by : RoomSink → List ℕ
taken_by sink = sink.bytes.items

-- whether a write to a memory sink has failed
abbrev pub is_marked_sink : RoomSink → Bool
is_marked_sink sink = sink.marked

-- the greatest number of bytes that a memory sink takes in one call
abbrev pub most_taken : RoomSink → ℕ
most_taken sink = sink.most

-- the number of bytes that a memory sink takes before it fails
abbrev pub left_to_take : RoomSink → ℕ
left_to_take sink = sink.capacity
