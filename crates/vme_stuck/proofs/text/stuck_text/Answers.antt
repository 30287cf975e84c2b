use Rattle.std.proofs.Common.{ℕ, List, ◌++◌, ap, ◌∙◌, arith}
use Rattle.vme_stuck.specs.Texts.{ends_text, count_text}
use Rattle.vme_stuck.proofs.text.stuck_text.Goals as goal

pub returns : goal.returns
returns g c =
    let ends = rw (c.new-text.ensures.items, c.as_slice.ensures.value) at c.in_ok-append_unless_quiet.ensures in
    record {
      listed = c.in_ok-found.found.ends.items;
      each = c.in_ok-found.ensures.each;
      count = omega (arith, c.len-ends.ensures, c.in_ok-found.found.ends.ok.0);
      states = c.in_ok-found.found.states;
      is = c.in_ok-append_counts.ensures ∙ ap (λ (t : List ℕ). t ++ count_text c.len-ends.result c.in_ok-found.found.states) ends;
    }
