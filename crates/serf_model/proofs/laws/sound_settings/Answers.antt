use Rattle.serf_model.proofs.StartLaws.{all-sound}
use Rattle.serf_model.proofs.laws.sound_settings.Goals as goal

pub returns : goal.returns
returns c = all-sound
