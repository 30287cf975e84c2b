-- Defines the buffers that are allocated before a run and used at its end.
use Rattle.std.specs.Prelude.{ℕ, ◌≡◌, ◌≤◌, List, vec_len, vec_capacity, All}
use Rattle.std.specs.Global.{Vec}
use Rattle.vme_threads.specs.declared.run_buffers.ReportBuffers.{ReportBuffers}

-- each buffer for counts is empty and has capacity for k counts
abbrev pub AreForCounts : ℕ → List (Vec ℕ) → Type 0
AreForCounts k buffers = All (λ b. (vec_len b ≡ 0) × (k ≤ vec_capacity b)) buffers

-- the buffers of the report are empty and have capacity for k boards and k workers
pub record AreEmptyBuffers (k : ℕ) (s : ReportBuffers) : Type 0 where
  pub lines : vec_len s.lines ≡ 0
  pub lines_capacity : k ≤ vec_capacity s.lines
  pub boards : vec_len s.boards ≡ 0
  pub boards_capacity : k ≤ vec_capacity s.boards
  pub counts : vec_len s.counts ≡ 0
  pub counts_capacity : k ≤ vec_capacity s.counts
  pub made_count : vec_len s.made ≡ k
  pub made : AreForCounts k s.made.items
  pub bus_made : vec_len s.bus_made ≡ 0
  pub bus_made_capacity : k ≤ vec_capacity s.bus_made
