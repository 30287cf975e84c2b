-- A script, line by line.
use Rattle.std.proofs.Common.{◌≡◌, ℕ, ◌+◌, ◌<◌, ◌≤◌, List, [], ◌∷◌, ◌++◌, length, map, take, drop, Some, All, refl, ap, sym, subst, ◌∙◌, arith}
use Rattle.std.specs.List.{slice_get}
use Rattle.std.proofs.lemmas.List.{map-append}
use Rattle.std.proofs.lemmas.Option.{get_or_from_slice_get}
use Rattle.vme_core.specs.Runs.{Transition}
use Rattle.vme_bus_objects.specs.Runs.{run_of, MatchesKind}
use Rattle.vme_shared.specs.declared.reply.LineReply.{LineReply}
use Rattle.vme_grammar.specs.declared.line.Line.{Line}
use Rattle.vme_script.specs.declared.script.ScriptLine.{ScriptLine}
use Rattle.vme_script.specs.Configurations.{Configuration}
use Rattle.vme_cycle.specs.BlockBuffers.{BufferView}
use Rattle.vme_line_task.specs.Scripts.{script_at, lines_at}
use Rattle.vme_line_task.specs.ReadBuffers.{line_read_len, buffers_of}
use Rattle.vme_line_task.specs.Traces.{LineTrace, IsTrace}
use Rattle.vme_line_task.proofs.lemmas.Traces.{trace-snoc}
use Rattle.vme_line_task.proofs.lemmas.LineBuffers.{IsNextBuffer, buffers_left, next_buffer}
use Rattle.vme_threads.specs.declared.processor_pass.ProcessorPass.{ProcessorPass}
use Rattle.vme_threads.specs.declared.worker.Worker.{Worker}
use Rattle.vme_threads.specs.declared.worker.Ran.{Ran}
use Rattle.vme_threads.specs.declared.ports.Ports.{Ports}
use Rattle.vme_threads.specs.Ports.{IsBuilt, IsWorkerOf}
use Rattle.vme_threads.specs.ProcessorPasses.{AddsTransitions}
use Rattle.vme_threads.specs.Rans.{AddsLine, numbers_in, replies_of_lines, run_made_by, HasRun}
use Rattle.vme_threads.proofs.ProcessorPasses.{made_none, made_more, fits_first, fits_after}
use Rattle.vme_threads.proofs.Places.{take_one, take_whole, map_length}

-- the first `count` lines of the script have their replies: a run that the processor made is their trace
pub record IsScriptInProgress (config : Configuration) (count : ℕ) (before now : ProcessorPass) (lines : List (ℕ × LineReply)) :
    Type 0 where
  pub run : List Transition
  pub made : AddsTransitions run before now
  pub trace : IsTrace config before.who (take count (lines_at config before.who)) run (replies_of_lines lines)
  pub numbers : numbers_in lines ≡ take count (map (λ (one : ScriptLine). one.number) (script_at config before.who))

-- the script that was found at a processor's index is that processor's
pub script_is :
    (config : Configuration) (who other : ℕ) (script : List ScriptLine) → other ≡ who
    → slice_get config.scripts other ≡ Some script
    → script_at config who ≡ script
script_is config who other script same there =
    get_or_from_slice_get config.scripts who script [] (subst (λ n. slice_get config.scripts n ≡ Some script) same there)

-- before the script, no line has its reply
pub script_start : (config : Configuration) (d : ProcessorPass) (lines : List (ℕ × LineReply)) → lines ≡ []
    → IsScriptInProgress config 0 d d lines
script_start config d lines none =
    subst (IsScriptInProgress config 0 d d) (sym none) (record { run = []; made = made_none d; trace = refl; numbers = refl })

-- one more line has its reply
pub script_more :
    (config : Configuration) (count : ℕ) (d e f : ProcessorPass) (lines : List (ℕ × LineReply)) (number : ℕ) (answer : LineReply)
    → IsScriptInProgress config count d e lines → AddsLine config count answer e f
    → slice_get (map (λ (one : ScriptLine). one.number) (script_at config d.who)) count ≡ Some number
    → IsScriptInProgress config (count + 1) d f (lines ++ (number, answer) ∷ [])
script_more config count d e f lines number answer progress answered numbered =
    let same = progress.made.who in
    let there = subst (λ who. slice_get (lines_at config who) count ≡ Some answered.line) same answered.there in
    let trace = subst (λ who. LineTrace config who answered.line answered.is.run answer) same answered.is.trace in
    record {
      run = progress.run ++ answered.is.run;
      made = made_more progress.run answered.is.run d e f progress.made answered.is.made;
      trace =
          subst (λ (answers : List LineReply). IsTrace config d.who (take (count + 1) (lines_at config d.who))
          (progress.run ++ answered.is.run) answers)
          (sym (map-append (λ (l : ℕ × LineReply). l.1) lines ((number, answer) ∷ [])))
          (subst (λ (ls : List Line). IsTrace config d.who ls (progress.run ++ answered.is.run) (replies_of_lines lines ++ answer ∷ []))
          (sym (take_one (lines_at config d.who) count answered.line there))
          (trace-snoc config d.who (take count (lines_at config d.who)) progress.run
          (replies_of_lines lines) answered.line answered.is.run answer progress.trace trace));
      numbers =
          map-append (λ (l : ℕ × LineReply). l.0) lines ((number, answer) ∷ [])
          ∙ ap (λ (ns : List ℕ). ns ++ number ∷ []) progress.numbers
          ∙ sym (take_one (map (λ (one : ScriptLine). one.number) (script_at config d.who)) count number numbered);
    }

-- there is a buffer for each line that is left
pub some_buffer :
    (config : Configuration) (who n : ℕ) (buffers : List BufferView) → n < length (lines_at config who)
    → buffers ≡ drop n (buffers_of (script_at config who))
    → 0 < length buffers
some_buffer config who n buffers n< are =
    buffers_left (script_at config who) n buffers
    (omega (arith, n<, map_length (λ (one : ScriptLine). one.line) (script_at config who))) are

-- the first buffer that is left is the next line's
pub buffer_taken :
    (config : Configuration) (who n : ℕ) (buffers rest : List BufferView) (buffer : BufferView) → n < length (lines_at config who)
    → buffers ≡ drop n (buffers_of (script_at config who)) → buffers ≡ buffer ∷ rest
    → IsNextBuffer (script_at config who) n buffer rest
buffer_taken config who n buffers rest buffer n< are is =
    next_buffer (script_at config who) n buffers rest buffer
    (omega (arith, n<, map_length (λ (one : ScriptLine). one.line) (script_at config who))) are is

-- the next line's buffer is large enough for what the line reads
pub buffer_serves :
    (config : Configuration) (who other n : ℕ) (buffer : BufferView) (rest : List BufferView)
    → IsNextBuffer (script_at config who) n buffer rest → other ≡ who
    → (line : Line) → slice_get (lines_at config other) n ≡ Some line → line_read_len line ≤ buffer.capacity
buffer_serves config who other n buffer rest next same line there =
    next.enough line (subst (λ w. slice_get (lines_at config w) n ≡ Some line) same there)

-- a processor whose lines all have their replies has run its script
pub script_end :
    (config : Configuration) (ports : Ports) (count : ℕ) (w : Worker) (ran : Ran) → IsBuilt config ports
    → IsWorkerOf config ports w.processor_pass.who w
    → IsScriptInProgress config count w.processor_pass ran.processor_pass ran.lines.items → length (lines_at config w.processor_pass.who) ≤ count
    → HasRun config ports w.processor_pass.who ran
script_end config ports count w ran built is progress all =
    let d = w.processor_pass in
    let script = script_at config d.who in
    let numbers = map (λ (one : ScriptLine). one.number) script in
    let lines = lines_at config d.who in
    let short : length numbers ≤ count =
    omega (
      arith,
      map_length (λ (one : ScriptLine). one.number) script,
      map_length (λ (one : ScriptLine). one.line) script,
      all,
    ) in
    let mine : ran.processor_pass.pass.mine ≡ progress.made.entries =
    progress.made.pass.mine ∙ ap (λ es. es ++ progress.made.entries) is.pass.mine in
    let run : run_made_by ran ≡ progress.run = ap run_of mine ∙ progress.made.run_is in record {
      same = progress.made.who;
      fits = fits_after ports progress.run d ran.processor_pass progress.made (fits_first config ports d.who w built is);
      whose = subst (All (λ (m : Transition). m.who ≡ d.who)) (sym run) progress.made.whose;
      kinds =
          subst (All (MatchesKind (length config.boards))) (sym mine)
          (subst (λ n. All (MatchesKind n) progress.made.entries) is.boards progress.made.kinds);
      trace =
          subst (λ ms. IsTrace config d.who lines ms (replies_of_lines ran.lines.items)) (sym run)
          (subst (λ (ls : List Line). IsTrace config d.who ls progress.run (replies_of_lines ran.lines.items))
          (take_whole lines count all) progress.trace);
      numbers = progress.numbers ∙ take_whole numbers count short;
    }
