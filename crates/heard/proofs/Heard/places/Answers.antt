-- `places` meets its contract: each place is the cabinet's bit, the first without a shift. Assumes nothing.
use Rattle.heard.specs.Heard.{voice_of}
use Rattle.heard.proofs.TableLaws.{first_voice}
use Rattle.heard.proofs.Heard.places.Goals as goal

pub returns : goal.returns
unfolding voice_of
returns c = rw (first_voice c.args.self)
