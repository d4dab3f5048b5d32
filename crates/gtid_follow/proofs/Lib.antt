-- What a step of the reader leaves (`StepLaws`), the lines (`LineLaws`), and the set's text (`TextLaws`).
mod StepLaws
mod LineLaws
mod TextLaws
