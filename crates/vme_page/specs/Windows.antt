-- Which edges of an event a cell shows, and where.
use Rattle.std.specs.Prelude.{ℕ, ◌-◌, nat_le, nat_lt, Bool, ◌&&◌, [], ◌∷◌, Option, Some, None, slice_get}
use Rattle.vme_trace.specs.declared.dump.edge.TheConstants.{BEGIN, EDGES, FIRST, RELEASE, SECOND}
use Rattle.vme_page.specs.declared.diagram.window.Window.{Window}
use Rattle.vme_page.specs.declared.diagram.window.Window.TheVariants.{Whole, First, Second, Arbitration, Unanswered, Release}

-- the first edge that a cell shows
abbrev pub first_edge : Window → ℕ
first_edge Whole = BEGIN
first_edge First = BEGIN
first_edge Second = SECOND
first_edge Arbitration = BEGIN
first_edge Unanswered = BEGIN
first_edge Release = RELEASE

-- the edge after the last one that a cell shows
abbrev pub end_edge : Window → ℕ
end_edge Whole = EDGES
end_edge First = SECOND
end_edge Second = EDGES
end_edge Arbitration = EDGES
end_edge Unanswered = RELEASE
end_edge Release = EDGES

-- whether a cell shows an edge
abbrev pub shows : Window → ℕ → Bool
shows window edge = nat_le (first_edge window) edge && nat_lt edge (end_edge window)

-- a place, or the last one if there is none
abbrev pub place_or : ℕ → Option ℕ → ℕ
place_or last None = last
place_or last (Some place) = place

-- the place of an edge of a handshake
abbrev pub handshake_place : ℕ → ℕ
handshake_place edge = place_or 100 (slice_get (4 ∷ 10 ∷ 18 ∷ 24 ∷ 34 ∷ 60 ∷ 72 ∷ 84 ∷ 92 ∷ 97 ∷ []) edge)

-- the place of an edge of arbitration: BRn* rises where BBSY* falls
abbrev pub arbitration_place : ℕ → ℕ
arbitration_place edge = place_or 66 (slice_get (12 ∷ 30 ∷ 48 ∷ 48 ∷ []) edge)

-- the place of an edge in a cell: a second handshake and a release after a cycle are drawn as if they came first
abbrev pub place : Window → ℕ → ℕ
place Whole edge = handshake_place edge
place First edge = handshake_place edge
place Second edge = handshake_place (edge - (SECOND - FIRST))
place Arbitration edge = arbitration_place edge
place Unanswered edge = handshake_place edge
place Release edge = arbitration_place (edge - RELEASE)
