mod OnesLaws
