-- The parts of a report, one after another, and a failure of the sink in each.
use Rattle.std.proofs.Common.{◌≡◌, ℕ, List, [], ◌++◌, Option, refl, sym}
use Rattle.std.proofs.lemmas.List.{append-nil}
use Rattle.std.specs.List.{flat_map}
use Rattle.vme_io.specs.Prefixes.{AppendsPrefix, Gathers}
use Rattle.vme_report.specs.declared.part.Part.TheVariants.{Replies, Counts, Memory}
use Rattle.vme_report.specs.Boards.{BoardText}
use Rattle.vme_report.specs.Reports.{part_text, report_text}
use Rattle.vme_io.proofs.lemmas.Gathering.{SoFar, so_far_none, so_far_more, so_far_fails}

module _ (boards : List BoardText) where
  -- the text of the replies of all boards
  abbrev replies : List ℕ
  replies = flat_map (part_text Replies) boards

  -- the text of the counts of all boards
  abbrev counts : List ℕ
  counts = flat_map (part_text Counts) boards

  -- the text of the memories of all boards
  abbrev memories : List ℕ
  memories = flat_map (part_text Memory) boards

  -- a report is the text of the replies, the counts and the memories
  by_parts : report_text boards ≡ replies ++ (counts ++ memories)
  unfolding report_text
  by_parts = refl

  -- after the replies, the counts and the memories remain to be written
  pub replies_reported :
      (old new : Option (List ℕ)) (before after : List ℕ) → before ≡ [] → Gathers old new before after replies
      → SoFar old new after (counts ++ memories) (report_text boards)
  replies_reported old new before after none reported =
      so_far_more old old new before after replies (report_text boards) (counts ++ memories) (report_text boards)
      (so_far_none old before (report_text boards) none) by_parts reported

  -- after the counts, the memories remain to be written
  pub counts_reported :
      (old mid new : Option (List ℕ)) (before after : List ℕ) → SoFar old mid before (counts ++ memories) (report_text boards)
      → Gathers mid new before after counts → SoFar old new after memories (report_text boards)
  counts_reported old mid new before after so_far reported =
      so_far_more old mid new before after counts (counts ++ memories) memories (report_text boards) so_far refl reported

  -- after the memories, nothing remains to be written
  pub memory_reported :
      (old mid new : Option (List ℕ)) (before after : List ℕ) → SoFar old mid before memories (report_text boards)
      → Gathers mid new before after memories → SoFar old new after [] (report_text boards)
  memory_reported old mid new before after so_far reported =
      so_far_more old mid new before after memories memories [] (report_text boards) so_far (sym (append-nil memories)) reported

  -- if the sink fails in the replies, a prefix of the report was written
  pub replies_cut :
      (old new : Option (List ℕ)) (before : List ℕ) → before ≡ [] → AppendsPrefix old new (before ++ replies) → AppendsPrefix old new (report_text boards)
  replies_cut old new before none failed =
      so_far_fails old old new before replies (report_text boards) (counts ++ memories) (report_text boards)
      (so_far_none old before (report_text boards) none) by_parts failed

  -- if the sink fails in the counts, a prefix of the report was written
  pub counts_cut :
      (old mid new : Option (List ℕ)) (before : List ℕ) → SoFar old mid before (counts ++ memories) (report_text boards)
      → AppendsPrefix mid new (before ++ counts) → AppendsPrefix old new (report_text boards)
  counts_cut old mid new before so_far failed =
      so_far_fails old mid new before counts (counts ++ memories) memories (report_text boards) so_far refl failed

  -- if the sink fails in the memories, a prefix of the report was written
  pub memory_cut :
      (old mid new : Option (List ℕ)) (before : List ℕ) → SoFar old mid before memories (report_text boards)
      → AppendsPrefix mid new (before ++ memories) → AppendsPrefix old new (report_text boards)
  memory_cut old mid new before so_far failed =
      so_far_fails old mid new before memories memories [] (report_text boards) so_far (sym (append-nil memories)) failed
