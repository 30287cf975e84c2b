-- The strobes and answers of a sample, and what they do between two samples.
use Rattle.std.specs.Prelude.{Bool, not, ◌&&◌, ◌||◌}
use Rattle.vme_protocol.specs.declared.sample.Sample.{Sample}

-- whether AS*, the data strobes and the answers are high, and defined
abbrev pub is_at_rest : Sample → Bool
is_at_rest s = s.address_strobe && s.ds1 && s.ds0 && s.dtack && s.berr && not s.undefined

-- whether a data strobe is low
abbrev pub has_strobe : Sample → Bool
has_strobe s = not s.ds1 || not s.ds0

-- whether an answer is low: DTACK* or BERR*
abbrev pub has_answer : Sample → Bool
has_answer s = not s.dtack || not s.berr

-- whether a line falls
abbrev pub falls : Bool → Bool → Bool
falls before after = before && not after

-- whether a line rises
abbrev pub rises : Bool → Bool → Bool
rises before after = not before && after

-- whether AS* falls, or rises
abbrev pub address_strobe_falls : Sample → Sample → Bool
address_strobe_falls before after = falls before.address_strobe after.address_strobe

-- AS* rises between two samples
abbrev pub address_strobe_rises : Sample → Sample → Bool
address_strobe_rises before after = rises before.address_strobe after.address_strobe

-- whether a data strobe falls, or rises
abbrev pub strobe_falls : Sample → Sample → Bool
strobe_falls before after = falls before.ds1 after.ds1 || falls before.ds0 after.ds0

-- a data strobe rises
abbrev pub strobe_rises : Sample → Sample → Bool
strobe_rises before after = rises before.ds1 after.ds1 || rises before.ds0 after.ds0

-- whether an answer falls, or rises
abbrev pub answer_falls : Sample → Sample → Bool
answer_falls before after = falls before.dtack after.dtack || falls before.berr after.berr

-- DTACK* or BERR* rises
abbrev pub answer_rises : Sample → Sample → Bool
answer_rises before after = rises before.dtack after.dtack || rises before.berr after.berr
