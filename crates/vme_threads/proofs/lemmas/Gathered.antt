-- The finished workers, the settled array and the entries for the boards give a gathered report.
use Rattle.std.proofs.Common.{◌≡◌, ℕ, ◌+◌, ◌<◌, ◌≤◌, List, [], ◌∷◌, ◌++◌, length, map, slice_index_or, All, ap, sym, subst, ◌∙◌, arith}
use Rattle.std.specs.Global.{Vec}
use Rattle.std.proofs.lemmas.List.{length-append}
use mathlib.Core.Option.{some}
use lib.ListN.{get_elem?}
use Rattle.vme_object.specs.Each.{Each, AllAt}
use Rattle.vme_object.proofs.lemmas.Eachs.{Each-nil, Each-push}
use Rattle.vme_arbiter.specs.Arbitration.{opening_bus}
use Rattle.vme_shared.specs.declared.reply.LineReply.{LineReply}
use Rattle.vme_port.specs.declared.home.Home.{Home}
use Rattle.vme_port_array.specs.Parts.{part}
use Rattle.vme_port_array.specs.Arrays.{IsPassOf, opening, passes_of}
use Rattle.vme_port_array.specs.Settlements.{Settles}
use Rattle.vme_bus_objects.specs.declared.object.BusObject.{BusObject}
use Rattle.vme_bus_objects.specs.declared.object.BusObject.TheVariants as objects
use Rattle.vme_bus_objects.specs.Objects.{bus_object_step}
use Rattle.vme_bus_objects.specs.Runs.{run_of, MatchesKind}
use Rattle.vme_script.specs.declared.board.BoardConfig.{BoardConfig}
use Rattle.vme_script.specs.declared.script.ScriptLine.{ScriptLine}
use Rattle.vme_script.specs.Configurations.{Configuration, opening_memory}
use Rattle.vme_line_task.specs.Scripts.{script_at, lines_at}
use Rattle.vme_line_task.specs.Traces.{IsTrace}
use Rattle.vme_threads.specs.declared.worker.Ran.{Ran}
use Rattle.vme_threads.specs.declared.ports.Ports.{Ports}
use Rattle.vme_threads.specs.declared.report.BoardReport.{BoardReport}
use Rattle.vme_threads.specs.declared.report.Report.{Report}
use Rattle.vme_threads.specs.Settlements.{BusPass, opening_objects, IsSettled}
use Rattle.vme_threads.specs.Rans.{HasRun, numbers_in, replies_of_lines}
use Rattle.vme_threads.specs.Reports.{HaveRun, CanGather}
use Rattle.vme_threads.specs.Gatherings.{IsBoardHome, IsGatheredBoard, IsGatheredFrom}
use Rattle.vme_threads.proofs.Places.{element_at, map_length, map_at, each_mapped, both_mapped, element_of_first, element_after}
use Rattle.vme_threads.proofs.Counts.{board_count, bus_count}
use Rattle.vme_threads.proofs.Entries.{AreEntries}
use Rattle.vme_threads.proofs.Settlements.{run_of_array}

-- the finished workers with one more that has run its script
pub have_more :
    (config : Configuration) (ports : Ports) (rans : List Ran) (r : Ran) → HaveRun config ports rans
    → HasRun config ports (length rans) r
    → HaveRun config ports (rans ++ r ∷ [])
have_more config ports rans r have run = Each-push (HasRun config ports) rans r have run

-- an empty list of finished workers
pub have_none : (config : Configuration) (ports : Ports) → HaveRun config ports []
have_none config ports = Each-nil (HasRun config ports)

module _ (config : Configuration) (ports : Ports) (rans : List Ran) (can : CanGather config ports rans) where
  -- the passes of the finished workers, in order
  abbrev passes : List BusPass
  passes = map (λ (r : Ran). r.processor_pass.pass) rans

  -- the counts of the finished workers, in order
  abbrev counts : List (Vec ℕ)
  counts = map (λ (r : Ran). r.processor_pass.made) rans

  -- each of the passes is one of the ports' array
  pub passes_fit : All (IsPassOf ports.array) passes
  passes_fit =
      each_mapped (λ k (p : BusPass). IsPassOf ports.array p) (λ (r : Ran). r.processor_pass.pass) rans
      (λ k r k<. (can.runs k r k<).fits.array)

  -- there are as many passes as the array has
  pub passes_all : length passes ≡ passes_of ports.array
  passes_all = map_length (λ (r : Ran). r.processor_pass.pass) rans ∙ can.count ∙ sym can.built.passes

  -- there is a slot for each board
  pub slots_count : length ports.slots.items ≡ length config.boards
  slots_count = ap length can.built.slots ∙ map_length (λ (own : BoardConfig). own.slot) config.boards

  -- each worker has a count for each board and one for the arbiter
  count_each : (k : ℕ) (r : Ran) → k < length rans
      → length (slice_index_or rans k r).processor_pass.made.items ≡ length config.boards + 1
  count_each k r k< =
      let run = can.runs k r k< in omega (arith, run.fits.made_count, run.fits.object_count, can.built.object_count)

  -- each worker has at least n counts, if n is at most the number of objects
  pub counts_wide : (n : ℕ) → n ≤ length config.boards + 1 → All (λ (own : Vec ℕ). n ≤ length own.items) counts
  counts_wide n within =
      each_mapped (λ k (own : Vec ℕ). n ≤ length own.items) (λ (r : Ran). r.processor_pass.made) rans
      (λ k r k<. omega (arith, within, count_each k r k<))

  -- the count by worker `who` of its calls of object x is the number of its entries of that object
  counted : (x who d : ℕ) (p : BusPass) (made : List ℕ) → x ≤ length config.boards → who < length passes
      → made ≡ map (λ (own : Vec ℕ). slice_index_or own.items x 0) counts
      → slice_index_or made who d ≡ length (part x (slice_index_or passes who p).mine)
  counted x who d p made within less is =
      let there : who < length rans = omega (arith, less, map_length (λ (r : Ran). r.processor_pass.pass) rans) in
      let counted_too : who < length counts = omega (arith, there, map_length (λ (r : Ran). r.processor_pass.made) rans) in
      let r = (element_at rans who there).0 in
      let own = (element_at counts who counted_too).0 in
      let run = can.runs who r there in
      ap (λ (l : List ℕ). slice_index_or l who d) is
      ∙ map_at (λ (own : Vec ℕ). slice_index_or own.items x 0) counts who d own counted_too
      ∙ ap (λ (own : Vec ℕ). slice_index_or own.items x 0) (map_at (λ (r : Ran). r.processor_pass.made) rans who own r there)
      ∙ run.fits.counted x 0 (omega (arith, within, run.fits.object_count, can.built.object_count))
      ∙ ap (λ (p : BusPass). length (part x p.mine)) (sym (map_at (λ (r : Ran). r.processor_pass.pass) rans who p r there))

  -- each command and reply of a worker is of its object's kind
  kinds_all : All (λ (p : BusPass). All (MatchesKind (length config.boards)) p.mine) passes
  kinds_all =
      each_mapped (λ k (p : BusPass). All (MatchesKind (length config.boards)) p.mine) (λ (r : Ran). r.processor_pass.pass) rans
      (λ k r k<. (can.runs k r k<).kinds)

  module _ (homes boards : List (Home BusObject)) (arbiter : Home BusObject)
      (settles : Settles bus_object_step (opening ports.array) (passes_of ports.array) passes homes)
      (split : homes ≡ boards ++ arbiter ∷ []) where
    -- the array of the configuration is settled with these passes
    is_settled : IsSettled config passes homes
    is_settled = record {
      settles =
          subst (λ k. Settles bus_object_step (opening_objects config) k passes homes) can.built.passes
          (subst (λ (os : List BusObject). Settles bus_object_step os
          (passes_of ports.array) passes homes) can.built.opened settles);
      kinds = kinds_all;
    }

    -- the objects before the last are as many as there are boards
    pub boards_count : length boards ≡ length config.boards
    boards_count =
        let opens =
        length-append (map (λ (own : BoardConfig). objects.Board (opening_memory own)) config.boards)
        (objects.Arbiter (opening_bus config.arbiter) ∷ []) in
        let mapped = map_length (λ (own : BoardConfig). objects.Board (opening_memory own)) config.boards in
        omega (arith, is_settled.settles.ends.count, ap length split, length-append boards (arbiter ∷ []), opens, mapped)

    -- the object at an index below the number of boards is one of `boards`
    home_there : (x : ℕ) (d : Home BusObject) → x < length boards → get_elem? homes x ≡ some (slice_index_or boards x d)
    home_there x d less =
        ap (λ (hs : List (Home BusObject)). get_elem? hs x) split ∙ element_of_first boards (arbiter ∷ []) x d less

    -- the objects before the last are boards
    pub boards_are : All IsBoardHome boards
    boards_are x d less =
        let own = element_at config.boards x (omega (arith, less, boards_count)) in
        let is =
        (run_of_array config passes homes is_settled).boards x own.0 (slice_index_or boards x d) own.1 (home_there x d less) in
        (_, is.1)

    module _ (report : Report) (entries : AreEntries counts ports.slots.items boards report.boards.items) where
      -- the report's entry for a board is gathered from its object and the passes
      entry_of :
          (x : ℕ) (own : BoardConfig) (end : BoardReport) → x < length config.boards
          → IsGatheredBoard passes homes x (slice_index_or config.boards x own) (slice_index_or report.boards.items x end)
      entry_of x own end less =
          let below : x < length boards = omega (arith, less, boards_count) in
          let is = entries.each x arbiter end below 0 in
          let slot =
          ap (λ (l : List ℕ). slice_index_or l x 0) can.built.slots
          ∙ map_at (λ (own : BoardConfig). own.slot) config.boards x 0 own less in
          record {
            slot = is.slot_is ∙ slot;
            home = slice_index_or boards x arbiter;
            there = home_there x arbiter below;
            memory = is.memory;
            steps = is.steps;
            process_count =
                ap length is.made ∙ map_length (λ (own : Vec ℕ). slice_index_or own.items x 0) counts
                ∙ map_length (λ (r : Ran). r.processor_pass.made) rans
                ∙ sym (map_length (λ (r : Ran). r.processor_pass.pass) rans);
            makes = λ who d p who<.
                counted x who d p _ (omega (arith, less)) who< is.made
                ∙ board_count (length config.boards) x (slice_index_or passes who p).mine less (kinds_all who p who<);
          }

      -- the report is gathered from the finished workers
      pub gathered_from :
          report.lines.items ≡ map (λ (r : Ran). r.lines) rans → report.arbiter_steps ≡ arbiter.count
          → report.arbiter_made.items ≡ map (λ (own : Vec ℕ). slice_index_or own.items (length ports.slots.items) 0) counts
          → IsGatheredFrom config rans report
      gathered_from lines steps made =
          let n = length config.boards in
          let made_is = made ∙ ap (λ x. map (λ (own : Vec ℕ). slice_index_or own.items x 0) counts) slots_count in
          record {
            lines = lines;
            homes = homes;
            is = record {
              settled = is_settled;
              whose =
                  each_mapped (λ i (p : BusPass). p.who ≡ i) (λ (r : Ran). r.processor_pass.pass) rans
                  (λ k r k<. let run = can.runs k r k< in run.fits.who ∙ run.same);
              trace =
                  subst (AllAt (λ who (p : BusPass) (ls : Vec (ℕ × LineReply)). IsTrace config who (lines_at config who)
                  (run_of p.mine) (replies_of_lines ls.items)) passes) (sym lines)
                  (both_mapped (λ who (p : BusPass) (ls : Vec (ℕ × LineReply)). IsTrace config who (lines_at config who)
                  (run_of p.mine) (replies_of_lines ls.items))
                  (λ (r : Ran). r.processor_pass.pass) (λ (r : Ran). r.lines) rans (λ k r k<. (can.runs k r k<).trace));
              numbers =
                  subst (Each (λ who (ls : Vec (ℕ × LineReply)). numbers_in ls.items
                  ≡ map (λ (one : ScriptLine). one.number) (script_at config who))) (sym lines)
                  (each_mapped (λ who (ls : Vec (ℕ × LineReply)). numbers_in ls.items
                  ≡ map (λ (one : ScriptLine). one.number) (script_at config who))
                  (λ (r : Ran). r.lines) rans (λ k r k<. (can.runs k r k<).numbers));
              boards = record { count = entries.count ∙ boards_count; each = entry_of };
              bus = arbiter;
              bus_there =
                  ap (λ (hs : List (Home BusObject)). get_elem? hs n) split
                  ∙ subst (λ m. get_elem? (boards ++ arbiter ∷ []) m ≡ some arbiter) boards_count (element_after boards arbiter);
              bus_steps = steps;
              bus_process_count =
                  ap length made_is ∙ map_length (λ (own : Vec ℕ). slice_index_or own.items n 0) counts
                  ∙ map_length (λ (r : Ran). r.processor_pass.made) rans
                  ∙ sym (map_length (λ (r : Ran). r.processor_pass.pass) rans);
              bus_makes = λ who d p who<.
                  counted n who d p _ (omega arith) who< made_is
                  ∙ bus_count n (slice_index_or passes who p).mine (kinds_all who p who<);
            };
          }
