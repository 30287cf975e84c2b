use Rattle.std.proofs.Common.{◌≡◌, [], rules}
use Rattle.vme_io.specs.Prefixes.{AppendsPrefix}
use Rattle.vme_outcome_listing.specs.ListedTexts.{shown}
use Rattle.std.proofs.Common.{map}
use Rattle.vme_outcome_listing.specs.Outputs.{listing_text}
use Rattle.vme_outcome_listing.proofs.Outputs.{whole_prefix, whole_written, both_written, first_cut, last_missing, last_cut}
use Rattle.vme_outcome_listing.proofs.write.write_listing.Goals as goal

pub returns-in_err-gather_paragraphs-clause-prefix : goal.returns-in_err-gather_paragraphs-clause-prefix
returns-in_err-gather_paragraphs-clause-prefix g c =
    let none : c.in_ok-text.text.items ≡ [] = search rules in
    let prefix : AppendsPrefix (g.W.Sink.contents c.args.writer.now) (g.W.Sink.contents c.gather_paragraphs.new.writer)
    (listing_text c.args.output c.args.listing.now.answers.items (map shown c.args.listing.now.paragraphs.items) c.args.states) =
    whole_prefix _ _ c.args.output c.args.listing.now.answers.items c.args.listing.now.paragraphs.items c.as_slice-paragraphs.result.now
    c.unless_quiet.result.now c.args.states c.as_slice-paragraphs.ensures.value c.unless_quiet.ensures
    (first_cut _ _ c.in_ok-text.text.items _ _ none c.in_err-gather_paragraphs.ensures.gathers) in
    search rules

pub returns-in_err-append_ending-clause-prefix : goal.returns-in_err-append_ending-clause-prefix
returns-in_err-append_ending-clause-prefix g c =
    let none : c.in_ok-text.text.items ≡ [] = search rules in
    let prefix : AppendsPrefix (g.W.Sink.contents c.args.writer.now) (g.W.Sink.contents c.gather_paragraphs.new.writer)
    (listing_text c.args.output c.args.listing.now.answers.items (map shown c.args.listing.now.paragraphs.items) c.args.states) =
    whole_prefix _ _ c.args.output c.args.listing.now.answers.items c.args.listing.now.paragraphs.items c.as_slice-paragraphs.result.now
    c.unless_quiet.result.now c.args.states c.as_slice-paragraphs.ensures.value c.unless_quiet.ensures
    (last_missing _ _ c.in_ok-text.text.items _ _ _ none c.in_ok-gather_paragraphs.ensures.gathers) in
    search rules

pub returns-in_err-write_all-clause-prefix : goal.returns-in_err-write_all-clause-prefix
returns-in_err-write_all-clause-prefix g c =
    let none : c.in_ok-text.text.items ≡ [] = search rules in
    let prefix : AppendsPrefix (g.W.Sink.contents c.args.writer.now) (g.W.Sink.contents c.write_all.new.writer)
    (listing_text c.args.output c.args.listing.now.answers.items (map shown c.args.listing.now.paragraphs.items) c.args.states) =
    whole_prefix _ _ c.args.output c.args.listing.now.answers.items c.args.listing.now.paragraphs.items c.as_slice-paragraphs.result.now
    c.unless_quiet.result.now c.args.states c.as_slice-paragraphs.ensures.value c.unless_quiet.ensures
    (last_cut _ _ _ c.in_ok-text.text.items _ _ _ _ none c.in_ok-gather_paragraphs.ensures.gathers c.in_ok-append_ending.ensures
    (rw c.as_slice.ensures.value at c.in_err-write_all.ensures.prefix)) in
    search rules

pub returns-clause-text : goal.returns-clause-text
returns-clause-text g c =
    let none : c.in_ok-text.text.items ≡ [] = search rules in
    whole_written _ _ c.args.output c.args.listing.now.answers.items c.args.listing.now.paragraphs.items c.as_slice-paragraphs.result.now
    c.unless_quiet.result.now c.args.states c.as_slice-paragraphs.ensures.value c.unless_quiet.ensures
    (both_written _ _ _ c.in_ok-text.text.items _ _ _ _ none c.in_ok-gather_paragraphs.ensures.gathers c.in_ok-append_ending.ensures
    (rw c.as_slice.ensures.value at c.in_ok-write_all.ensures.bytes))
