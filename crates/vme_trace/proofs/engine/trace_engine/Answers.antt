use Rattle.vme_trace.proofs.Tracing.{trace_prefix_written}
use Rattle.vme_trace.proofs.engine.trace_engine.Goals as goal

pub returns-in_err-write_trace-clause-prefix : goal.returns-in_err-write_trace-clause-prefix
returns-in_err-write_trace-clause-prefix g c =
    trace_prefix_written c.args.selection _ _ _ _ c.in_ok-config.config c.in_ok-config.ensures.config c.in_err-write_trace.ensures.prefix
