use Rattle.std.proofs.Common.{◌≡◌, ◌++◌, nat_lt, ap, ◌∙◌}
use Rattle.std.specs.List.{filter}
use Rattle.vme_sparse_memory.specs.declared.entry.WordEntry.{WordEntry}
use Rattle.vme_sparse_memory.specs.Entries.{own_entries, words_with}
use Rattle.vme_sparse_memory.proofs.Entries.{replaced}
use Rattle.vme_sparse_memory.proofs.entry.with_word.Goals as goal

-- src/entry.rt:30:1
pub returns : goal.returns
returns c =
    let below = filter (λ (e : WordEntry). nat_lt e.at c.args.at) c.args.entries.now in
    let above = filter (λ (e : WordEntry). nat_lt c.args.at e.at) c.args.entries.now in
    let first : c.add_below.new.new.items ≡ below = c.in_ok-add_below.ensures ∙ ap (λ before. before ++ below) c.in_ok-new.ensures.items in
    let second : c.add_own.new.new.items ≡ below ++ own_entries c.args.at c.args.word =
    c.in_ok-add_own.ensures ∙ ap (λ before. before ++ own_entries c.args.at c.args.word) first in
    let third : c.add_above.new.new.items ≡ below ++ own_entries c.args.at c.args.word ++ above =
    c.in_ok-add_above.ensures ∙ ap (λ before. before ++ above) second in
    λ n. ap (λ entries. words_with entries n) third ∙ replaced c.args.entries.now c.args.at c.args.word n
