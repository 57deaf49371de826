use Rattle.band_phaser.proofs.tests.participants_come_and_go.Given as goal

abbrev pub ghosts-two_meet : goal.ghosts-two_meet
ghosts-two_meet g a = record { name = a.blank.name; parts = a.blank.parts }

abbrev pub ghosts-one_waits_after_it_arrived : goal.ghosts-one_waits_after_it_arrived
ghosts-one_waits_after_it_arrived g a = record { name = a.blank.name; parts = a.blank.parts }
