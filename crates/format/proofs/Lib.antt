mod FormatLaws
