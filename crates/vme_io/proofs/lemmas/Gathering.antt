-- Text that is gathered and written in pieces, until all of it is written.
use Rattle.std.proofs.Common.{◌≡◌, ℕ, List, [], ◌++◌, Option, refl, sym, ap, ◌∙◌, append_assoc}
use Rattle.std.proofs.lemmas.List.{append-nil}
use Rattle.std.specs.Io.KnownBytes.{Appends}
use Rattle.vme_io.specs.Prefixes.{AppendsPrefix, Gathers}
use Rattle.vme_io.proofs.lemmas.Appending.{Appends-none, Appends-more, AppendsPrefix-more}

-- a text that was printed after the gathered bytes, and then perhaps written, was gathered after them
pub printed_gathers :
    (old new : Option (List ℕ)) (before text printed after : List ℕ) → Gathers old new printed after [] → printed ≡ before ++ text
    → Gathers old new before after text
printed_gathers old new before text printed after passed as_printed = record {
  prefix = passed.prefix;
  appends = passed.appends;
  split = sym as_printed ∙ sym (append-nil printed) ∙ passed.split;
}

-- if a text was printed after the gathered bytes and a write failed, a prefix of both together was written
pub printed_prefix :
    (old new : Option (List ℕ)) (before text printed : List ℕ) → AppendsPrefix old new printed → printed ≡ before ++ text
    → AppendsPrefix old new (before ++ text)
printed_prefix old new before text printed failed as_printed = record {
  prefix = failed.prefix;
  rest = failed.rest;
  split = sym as_printed ∙ failed.split;
  appends = failed.appends;
}

-- a byte model that is unchanged appends a prefix of any bytes
pub nothing_prefix : (reported : Option (List ℕ)) (all : List ℕ) → AppendsPrefix reported reported all
nothing_prefix reported all = record { prefix = []; rest = all; split = refl; appends = Appends-none reported }

-- a prefix of `whole` was written to the sink; the gathered text follows it, and then the text that is left
pub record SoFar (old new : Option (List ℕ)) (gathered left whole : List ℕ) : Type 0 where
  pub prefix : List ℕ
  pub appends : Appends old new prefix
  pub split : (prefix ++ gathered) ++ left ≡ whole

-- if nothing is gathered and all of the text is left, `SoFar` holds
pub so_far_none : (reported : Option (List ℕ)) (gathered whole : List ℕ) → gathered ≡ [] → SoFar reported reported gathered whole whole
so_far_none reported gathered whole none = record { prefix = []; appends = Appends-none reported; split = ap (λ t. t ++ whole) none }

-- the concatenation of four texts is associative
regrouped : (prefix before text left : List ℕ) → (prefix ++ (before ++ text)) ++ left ≡ (prefix ++ before) ++ (text ++ left)
regrouped prefix before text left = simp append_assoc

-- if one more text is gathered, `SoFar` holds with that text no longer left
pub so_far_more :
    (old mid new : Option (List ℕ)) (before after text left rest whole : List ℕ) → SoFar old mid before left whole → left ≡ text ++ rest
    → Gathers mid new before after text → SoFar old new after rest whole
so_far_more old mid new before after text left rest whole so_far first next = record {
  prefix = so_far.prefix ++ next.prefix;
  appends = Appends-more old mid new so_far.prefix next.prefix so_far.appends next.appends;
  split = ap (λ t. t ++ rest) (append_assoc so_far.prefix next.prefix after ∙ ap (λ t. so_far.prefix ++ t) (sym next.split))
      ∙ regrouped so_far.prefix before text rest ∙ ap (λ t. (so_far.prefix ++ before) ++ t) (sym first) ∙ so_far.split;
}

-- if the sink failed while one more text was gathered, a prefix of the whole was written
pub so_far_fails :
    (old mid new : Option (List ℕ)) (before text left rest whole : List ℕ) → SoFar old mid before left whole → left ≡ text ++ rest
    → AppendsPrefix mid new (before ++ text) → AppendsPrefix old new whole
so_far_fails old mid new before text left rest whole so_far first failed =
    AppendsPrefix-more old mid new so_far.prefix (before ++ text) rest whole so_far.appends failed
    (regrouped so_far.prefix before text rest ∙ ap (λ t. (so_far.prefix ++ before) ++ t) (sym first) ∙ so_far.split)

-- if nothing is left and the gathered text is written, the whole was written
pub so_far_written :
    (old mid new : Option (List ℕ)) (gathered whole : List ℕ) → SoFar old mid gathered [] whole → Appends mid new gathered → Appends old new whole
so_far_written old mid new gathered whole so_far written =
    rw (sym so_far.split ∙ append-nil (so_far.prefix ++ gathered)) (Appends-more old mid new so_far.prefix gathered so_far.appends written)

-- if nothing is left and the sink fails, a prefix of the whole was written
pub so_far_unwritten :
    (old mid new : Option (List ℕ)) (gathered whole : List ℕ) → SoFar old mid gathered [] whole → AppendsPrefix mid new gathered
    → AppendsPrefix old new whole
so_far_unwritten old mid new gathered whole so_far failed =
    AppendsPrefix-more old mid new so_far.prefix gathered [] whole so_far.appends failed so_far.split
