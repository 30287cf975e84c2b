use Rattle.std.proofs.Common.{◌≡◌, Ok}
use Rattle.std.specs.Str.Lines.{lines}
use Rattle.vme_history.specs.Reading.{empty_log, log_from}
use Rattle.vme_history.proofs.read.read_log.Given as goal

-- the log so far, with the lines that are left, is that of the text
abbrev pub invariant-loop-line : goal.invariant-loop-line
invariant-loop-line l = record {
  log : log_from (Ok l.log) l.number (lines l.line-iterator.rest.now) ≡ log_from (Ok (empty_log l.config)) 0 (lines l.text);
  config : l.log.config ≡ l.config;
}
